use Rattle.std.proofs.Common.{◌∙◌}
use Rattle.nand.proofs.laws.page_order.Goals as goal

pub returns-clause-pages : goal.returns-clause-pages
returns-clause-pages c old new is torn = (λ i. is.flash i 0 0) ∙ torn
