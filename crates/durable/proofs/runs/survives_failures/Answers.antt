use Rattle.durable.proofs.Promises.{readable_renumbered}
use Rattle.durable.proofs.runs.survives_failures.Goals as goal

pub returns-clause-renumbered : goal.returns-clause-renumbered
returns-clause-renumbered c f t old new acked begun is renumbered same = readable_renumbered f t old new acked begun renumbered same is
