use Rattle.std.proofs.Common.{◌≡◌, ◌≢◌, ◌<◌, ℕ, None, Some, slice_index_or}
use Rattle.geometry.specs.declared.page_addr.PageAddr.{PageAddr}
use Rattle.durable.proofs.search.source_in_map.Given as goal

abbrev pub invariant-loop-s : goal.invariant-loop-s
invariant-loop-s l = (j : ℕ) (at : PageAddr) → j < l.s → slice_index_or l.map.items j None ≡ Some at → at.block ≢ l.block
