use Rattle.std.proofs.Common.{⊎_elim}
use Rattle.durable.proofs.Opened.{none_some}
use Rattle.durable.proofs.layer.laws.few_copies.Goals as goal

pub returns-clause-open : goal.returns-clause-open
returns-clause-open c map roomy = ⊎_elim (none_some roomy.0.0) (none_some roomy.0.0) roomy.0.1
