use Rattle.std.proofs.Common.{◌≡◌, ◌≤◌, length, set, get_or}
use Rattle.victims.proofs.bucket_queue.BucketQueue.lower_to.Given as goal

abbrev pub invariant-loop-self : goal.invariant-loop-self
invariant-loop-self l = record {
  keys : l.self.keys.items ≡ set l.initial.self.keys.items l.item (get_or l.self.keys.items l.item 0);
  bound : l.key ≤ get_or l.self.keys.items l.item 0;
  buckets : length l.self.starts.items ≡ length l.initial.self.starts.items;
}

abbrev pub decreases-loop-self : goal.decreases-loop-self
decreases-loop-self l = get_or l.self.keys.items l.item 0
