use Rattle.std.proofs.Common.{arith}
use Rattle.geometry.proofs.words.pin_at.Goals as goal

pub returns : goal.returns
returns c = omega arith
