use Rattle.std.proofs.Common.{◌≡◌, ◌<◌, ℕ, None, false, slice_index_or}
use Rattle.durable.specs.Losses.{is_at}
use Rattle.durable.proofs.gaps.has_page.Given as goal

abbrev pub invariant-loop-i : goal.invariant-loop-i
invariant-loop-i l = (s : ℕ) → s < l.i → is_at l.block (slice_index_or l.found.items s None) ≡ false
