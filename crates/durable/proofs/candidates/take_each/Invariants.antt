use Rattle.std.proofs.Common.{◌≡◌, ◌<◌, ◌≤◌, ℕ, length, None, slice_index_or}
use Rattle.durable.specs.Candidates.{newer_of}
use Rattle.durable.proofs.candidates.take_each.Given as goal

abbrev pub invariant-loop-sector : goal.invariant-loop-sector
invariant-loop-sector l = record {
  size : length l.found.items ≡ length l.fn.found.items;
  from : l.first ≤ l.sector;
  taken : (s : ℕ) → s < length l.fn.found.items → l.first ≤ s → s < l.sector
      → slice_index_or l.found.items s None ≡ newer_of l.gaps (slice_index_or l.fn.found.items s None) l.at l.stamp.number;
  before : (s : ℕ) → s < l.first → slice_index_or l.found.items s None ≡ slice_index_or l.fn.found.items s None;
  after : (s : ℕ) → l.sector ≤ s → slice_index_or l.found.items s None ≡ slice_index_or l.fn.found.items s None;
}
