use Rattle.std.proofs.{Common.◌+◌, Common.arith, lemmas.Grind.common_steps}
use Rattle.victims.proofs.Sorting.{count_below_next}
use Rattle.victims.proofs.bucket_queue.BucketQueue.count.Goals as goal

pub overflow_sub-result : goal.overflow_sub-result
overflow_sub-result c =
    let q = c.args.self.now in
    grind (arith, common_steps, q.in_order.count c.args.key, q.in_order.count (c.args.key + 1), count_below_next c.args.key q.keys.items)

pub returns : goal.returns
returns c =
    let q = c.args.self.now in
    grind (arith, common_steps, q.in_order.count c.args.key, q.in_order.count (c.args.key + 1), count_below_next c.args.key q.keys.items)
