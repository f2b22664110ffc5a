use Rattle.std.proofs.Common.{refl}
use Rattle.nand.specs.declared.flash.Fault.TheVariants as fault
use Rattle.nand.proofs.laws.outcomes.Goals as goal

pub returns-clause-only : goal.returns-clause-only
returns-clause-only c old new is = (is.1 fault.Failed refl).1
