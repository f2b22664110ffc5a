use Rattle.std.proofs.Common.{refl, arith}
use Rattle.durable_exports.proofs.laws.retirements.Goals as goal

pub returns-clause-takes : goal.returns-clause-takes
returns-clause-takes c f l acked begun is blank blocks read number takes =
    takes f acked begun is blank (omega (arith, blocks)) (omega (arith, read)) (omega (arith, number)) refl
