use Rattle.std.proofs.Common.{◌≡◌, List, [], ◌∷◌, ap, arith}
use Rattle.std.specs.Prelude.{map, slice_index_or}
use Rattle.flash_rule.specs.declared.view.View.{View}
use Rattle.volume.specs.declared.volume.Volume.{Volume}
use Rattle.workers.specs.{Meetings.rest_of, Tasks.HavePlayed, Workers.HasPlayed, declared.worker.Worker.Worker}
use Rattle.laws.proofs.plays.players.workers_of_a_round.Goals as goal

one_round : (v : Volume) (p q : Worker) (between : List Worker) → HavePlayed (record { end = 5; patience = 9 }) (p ∷ []) between
    → map rest_of (q ∷ []) ≡ map rest_of between → (r : Worker) × HasPlayed (record { end = 5; patience = 9 }) p r × (rest_of q ≡ rest_of r)
one_round v p q [] played rest = absurd (played)
one_round v p q (r ∷ []) played rest = (r, played.0, ap (λ l. slice_index_or l 0 (rest_of q)) rest)
one_round v p q (r ∷ s ∷ between) played rest = absurd (played.1)

pub returns-clause-has_called : goal.returns-clause-has_called
returns-clause-has_called c n p q role h = ap (λ (v : View). v.erases) (h.played 2 role).changed

pub returns-clause-manned : goal.returns-clause-manned
returns-clause-manned c v p h = (h.at 0 p (omega arith), h.seated 0 p.pass (omega arith))

pub returns-clause-round : goal.returns-clause-round
returns-clause-round c v p q h = one_round v p q h.between h.played h.rest

pub returns-clause-ready : goal.returns-clause-ready
returns-clause-ready c v p b h = (h.passes_ready 0 p (omega arith), h.brooms_ready 0 b (omega arith))
