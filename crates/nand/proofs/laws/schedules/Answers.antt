use Rattle.std.proofs.Common.{◌∙◌}
use Rattle.nand.proofs.laws.schedules.Goals as goal

pub returns-clause-same_page : goal.returns-clause-same_page
returns-clause-same_page c old new is torn = (λ i. is.flash i 0 0) ∙ torn
