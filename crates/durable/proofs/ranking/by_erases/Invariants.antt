use Rattle.std.proofs.Common.{◌≡◌, ◌≢◌, ◌<◌, length, slice_index}
use Rattle.durable.proofs.ranking.by_erases.Given as goal

abbrev pub invariant-loop-place : goal.invariant-loop-place
invariant-loop-place l = record {
  within : l.best < length l.queue.keys.items;
  key : slice_index l.queue.keys.items l.best ≡ slice_index l.queue.keys.items l.block;
  beside : l.block ≢ l.avoided → l.best ≢ l.avoided;
}
