use Rattle.std.proofs.{Common.arith, lemmas.Grind.common_steps}
use Rattle.geometry.proofs.words.Phase.bits.Goals as goal

pub returns-in-Retired-clause-bits : goal.returns-in-Retired-clause-bits
returns-in-Retired-clause-bits c = grind (arith, common_steps)
