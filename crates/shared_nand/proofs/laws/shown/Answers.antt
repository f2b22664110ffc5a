use Rattle.std.proofs.Common.{arith}
use Rattle.shared_nand.proofs.laws.shown.Goals as goal

pub returns-clause-above : goal.returns-clause-above
returns-clause-above c below = let is = below 0 (0, 0) (omega arith) (omega arith) in omega (arith, is)

pub returns-clause-older : goal.returns-clause-older
returns-clause-older c below = let is = below 1 (0, 0) (omega arith) (omega arith) in omega (arith, is)
