use Rattle.durable.proofs.Exact.{runs_each}
use Rattle.durable.proofs.Promises.{runs_consistent, runs_keep}
use Rattle.durable.proofs.runs.keeps_acknowledged.Goals as goal

pub returns-clause-keeps : goal.returns-clause-keeps
returns-clause-keeps c = runs_keep

pub returns-clause-consistent : goal.returns-clause-consistent
returns-clause-consistent c = runs_consistent

pub returns-clause-each : goal.returns-clause-each
returns-clause-each c = runs_each
