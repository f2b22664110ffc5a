use Rattle.std.proofs.Common.{◌≡◌, ◌<◌, ℕ, slice_index}
use Rattle.victims.proofs.bucket_queue.BucketQueue.least_beside.Given as goal

abbrev pub invariant-loop-place : goal.invariant-loop-place
invariant-loop-place l = (p : ℕ) → p < l.place → slice_index l.self.sorted.order.items p ≡ l.avoided
