use Rattle.std.proofs.Common.{◌≡◌, ◌<◌, [], ◌∷◌, length, refl, ap, arith}
use Rattle.flash_rule.specs.declared.view.View.{View}
use Rattle.laws.specs.Rounds.{meeting, read}
use Rattle.laws.proofs.plays.played_rounds.runs_of_workers.Goals as goal

pub returns-clause-unknown : goal.returns-clause-unknown
returns-clause-unknown c v p ends h = let low : 1 < 1 = h.known 0 (read 1) (omega arith) in omega (arith, low)

pub returns-clause-beyond : goal.returns-clause-beyond
returns-clause-beyond c v p ends five h = omega (arith, five, h.sectors 0 (read 0) (omega arith))

pub returns-clause-other_lines : goal.returns-clause-other_lines
returns-clause-other_lines c v p ends none h =
    let one : p.places.items ≡ 0 ∷ [] = (h.dealt 0 p (omega arith)).places in omega (arith, ap length none, ap length one)

pub returns-clause-each : goal.returns-clause-each
returns-clause-each c v trace ps q h = (h.dealt 0 q (omega arith), h.each 0 (omega arith))

pub returns-clause-no_meeting : goal.returns-clause-no_meeting
returns-clause-no_meeting c v p a b h = (h.doable 0 meeting (omega arith)).alone refl

pub returns-clause-looked : goal.returns-clause-looked
returns-clause-looked c v p q h =
    (ap (λ (u : View). u.programs) (h.looked 0 (omega arith)).changed, ap (λ (u : View). u.denied) (h.looked 0 (omega arith)).changed)
