use Rattle.std.proofs.Common.{◌≡◌, ◌<◌, ◌≤◌, ℕ, length, None, slice_index_or}
use Rattle.durable.specs.Collecting.{AreLiveCounts}
use Rattle.durable.specs.Retiring.{swapped_entry}
use Rattle.durable.proofs.counting.renumber.Given as goal

abbrev pub invariant-loop-s : goal.invariant-loop-s
invariant-loop-s l = record {
  size : length l.map.items ≡ length l.fn.map.items;
  done : (k : ℕ) → k < l.s → slice_index_or l.map.items k None ≡ swapped_entry l.from l.to (slice_index_or l.fn.map.items k None);
  rest : (k : ℕ) → l.s ≤ k → slice_index_or l.map.items k None ≡ slice_index_or l.fn.map.items k None;
  lengths : length l.counts ≡ length l.fn.counts;
  counted : AreLiveCounts l.counts l.map.items;
}
