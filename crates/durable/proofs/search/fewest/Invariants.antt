use Rattle.std.proofs.Common.{◌≡◌, ◌≢◌, ◌<◌, ◌≤◌, ℕ, length, slice_index_or}
use Rattle.durable.proofs.search.fewest.Given as goal

abbrev pub invariant-loop-block : goal.invariant-loop-block
invariant-loop-block l = record {
  least : (b : ℕ) → b < l.block → b ≢ l.avoided → (l.best ≢ l.avoided) × (l.least ≤ slice_index_or l.counts b 0);
  best : l.best ≢ l.avoided → (l.best < length l.counts) × (l.least ≡ slice_index_or l.counts l.best 0);
}
