use Rattle.std.proofs.Common.{arith}
use Rattle.victims.proofs.laws.counted_blocks.Goals as goal

pub returns-clause-too_full : goal.returns-clause-too_full
returns-clause-too_full c counted = absurd (omega (arith, counted.within 0))
