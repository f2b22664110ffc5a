use Rattle.victims.specs.Buckets.{HasLeastKey}
use Rattle.victims.proofs.bucket_queue.BucketQueue.least.Given as goal

abbrev pub invariant-loop-place : goal.invariant-loop-place
invariant-loop-place l = HasLeastKey l.self.keys.items l.key l.best
