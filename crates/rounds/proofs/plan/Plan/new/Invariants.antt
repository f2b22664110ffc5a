use Rattle.std.{proofs.Common.◌≡◌, proofs.Common.map, proofs.Common.take, specs.List.range_with_len}
use Rattle.rounds.specs.Plans.{items_of, places_for, meetings_from}
use Rattle.rounds.proofs.plan.Plan.new.Given as goal

abbrev pub invariant-loop-i : goal.invariant-loop-i
invariant-loop-i l = record {
  places : map items_of l.places.items ≡ map (λ t. places_for t (take l.i l.commands)) (range_with_len 0 l.hosts);
  ends : l.ends.items ≡ meetings_from 0 (take l.i l.commands);
}
