use Rattle.std.proofs.Common.{◌≡◌, List, length, ap, length-append, arith}
use Rattle.workers.specs.Tallies.{GrowsBy}
use Rattle.laws.proofs.plays.tallies.what_a_broom_has_done.Goals as goal

-- a list that is the same has not grown by one
no_growth : {X : Type 0} → (xs ys : List X) → xs ≡ ys → GrowsBy 1 xs ys → ⊥
no_growth xs ys same (more, is, one) = omega (arith, ap length same, ap length is, length-append xs more, one)

pub returns-clause-drained : goal.returns-clause-drained
returns-clause-drained c v w same h = no_growth v.drains w.drains same h.drains

pub returns-clause-programmed : goal.returns-clause-programmed
returns-clause-programmed c v w same h = no_growth v.programs w.programs same h.programs

pub returns-clause-erased : goal.returns-clause-erased
returns-clause-erased c v w same h = no_growth v.erases w.erases same h.erases

pub returns-clause-lost : goal.returns-clause-lost
returns-clause-lost c v w same h = no_growth v.lost w.lost same h.lost
