use Rattle.std.proofs.Common.{◌≡◌, ◌<◌, ◌≤◌, ℕ, length, None, slice_index_or}
use Rattle.durable.specs.Candidates.{valued_page}
use Rattle.durable.specs.Marks.{is_valued}
use Rattle.durable.proofs.found.keep_valued.Given as goal

abbrev pub invariant-loop-s : goal.invariant-loop-s
invariant-loop-s l = record {
  size : length l.map.items ≡ length l.fn.map.items;
  kept : (s : ℕ) → s < l.s
      → slice_index_or l.map.items s None ≡ valued_page (is_valued l.valued s) (slice_index_or l.fn.map.items s None);
  rest : (s : ℕ) → l.s ≤ s → slice_index_or l.map.items s None ≡ slice_index_or l.fn.map.items s None;
}
