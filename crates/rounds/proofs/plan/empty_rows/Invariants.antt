use Rattle.std.proofs.Common.{◌≡◌, ◌≤◌, [], map, replicate, vec_len, vec_capacity}
use Rattle.rounds.specs.Plans.{items_of}
use Rattle.rounds.proofs.plan.empty_rows.Given as goal

abbrev pub invariant-loop : goal.invariant-loop
invariant-loop l = record {
  empty : map items_of l.rows.items ≡ replicate l.counter [];
  count : vec_len l.rows ≡ l.counter;
  room : l.hosts ≤ vec_capacity l.rows;
}
