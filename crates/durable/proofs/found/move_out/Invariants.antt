use Rattle.std.proofs.Common.{◌≡◌, ◌<◌, ◌≤◌, ℕ, length, None, slice_index_or}
use Rattle.durable.specs.Candidates.{outside_of}
use Rattle.durable.proofs.found.move_out.Given as goal

abbrev pub invariant-loop-s : goal.invariant-loop-s
invariant-loop-s l = record {
  size : length l.map.items ≡ length l.fn.map.items;
  moved : (s : ℕ) → s < l.s
      → slice_index_or l.map.items s None ≡ outside_of l.avoided (slice_index_or l.fn.map.items s None) (slice_index_or l.twins.items s None);
  rest : (s : ℕ) → l.s ≤ s → slice_index_or l.map.items s None ≡ slice_index_or l.fn.map.items s None;
}
