use Rattle.std.proofs.Common.{refl, arith}
use Rattle.nand.proofs.driving.laws.driver_numbers.Goals as goal

pub returns-clause-twice : goal.returns-clause-twice
returns-clause-twice c apart = omega (arith, apart 0 1 refl)

pub returns-clause-stays : goal.returns-clause-stays
returns-clause-stays c old new b stays out = stays.given_up b out
