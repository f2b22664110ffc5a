use Rattle.std.proofs.Common.{◌≡◌, ℕ, length, ◌<◌, take, slice_index_or}
use Rattle.durable.specs.Collecting.{live_in}
use Rattle.durable.proofs.counting.counts_of.Given as goal

abbrev pub invariant-loop-s : goal.invariant-loop-s
invariant-loop-s l = record {
  size : length l.counts ≡ l.blocks;
  counted : (b : ℕ) → b < length l.counts → slice_index_or l.counts b 0 ≡ live_in b (take l.s l.map.items);
}
