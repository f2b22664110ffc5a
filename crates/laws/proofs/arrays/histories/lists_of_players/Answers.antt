use Rattle.std.proofs.Common.{◌≡◌, refl, arith}
use Rattle.laws.proofs.arrays.histories.lists_of_players.Goals as goal

pub returns-clause-shared : goal.returns-clause-shared
returns-clause-shared c x y z apart = apart 1 1 y refl refl

pub returns-clause-twice : goal.returns-clause-twice
returns-clause-twice c x y once = let e : 0 ≡ 2 = once 0 2 x refl refl in absurd (omega (arith, e))
