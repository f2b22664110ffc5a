use Rattle.std.proofs.Common.{◌≡◌, ◌≤◌, All, length, vec_capacity}
use Rattle.std.specs.Arc.{arc_value}
use Rattle.workers.proofs.team.opening.more_owners.Given as goal

abbrev pub invariant-loop : goal.invariant-loop
invariant-loop l = record {
  count : length l.owners.items ≡ l.counter;
  room : l.fn.count ≤ vec_capacity l.owners;
  same : All (λ owner. arc_value owner ≡ arc_value l.volume) l.owners.items;
}
