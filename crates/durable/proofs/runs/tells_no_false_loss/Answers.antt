use Rattle.durable.proofs.Unharmed.{runs_of, runs_whole}
use Rattle.durable.proofs.runs.tells_no_false_loss.Goals as goal

pub returns-clause-runs : goal.returns-clause-runs
returns-clause-runs c = runs_of

pub returns-clause-whole : goal.returns-clause-whole
returns-clause-whole c = runs_whole
