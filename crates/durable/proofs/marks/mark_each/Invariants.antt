use Rattle.std.proofs.Common.{◌≡◌, ◌<◌, ◌≤◌, ℕ, length, true}
use Rattle.durable.specs.Marks.{is_valued}
use Rattle.durable.proofs.marks.mark_each.Given as goal

abbrev pub invariant-loop-sector : goal.invariant-loop-sector
invariant-loop-sector l = record {
  size : length l.marks.items ≡ length l.fn.marks.items;
  from : l.first ≤ l.sector;
  marked : (s : ℕ) → l.first ≤ s → s < l.sector → is_valued l.marks.items s ≡ true;
  before : (s : ℕ) → s < l.first → is_valued l.marks.items s ≡ is_valued l.fn.marks.items s;
  after : (s : ℕ) → l.sector ≤ s → is_valued l.marks.items s ≡ is_valued l.fn.marks.items s;
}
