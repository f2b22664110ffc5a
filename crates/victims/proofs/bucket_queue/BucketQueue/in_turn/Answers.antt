use Rattle.std.proofs.Common.{◌+◌, ◌%◌, arith}
use Rattle.std.proofs.Math.Nat.{mod-lt}
use Rattle.std.proofs.lemmas.Grind.{common_steps}
use Rattle.victims.proofs.Sorting.{count_below_next, key_there, starts_within}
use Rattle.victims.proofs.bucket_queue.BucketQueue.in_turn.Goals as goal

pub overflow_add-place : goal.overflow_add-place
overflow_add-place c =
    let q = c.args.self.now in
    grind (
      arith,
      common_steps,
      mod-lt c.args.turn {m = c.count-items.result},
      starts_within _ _ _ q.in_order (c.args.key + 1),
      q.in_order.count c.args.key,
      q.in_order.count (c.args.key + 1),
      count_below_next c.args.key q.keys.items,
    )

pub index-requires-2 : goal.index-requires-2
index-requires-2 c =
    let q = c.args.self.now in
    grind (
      arith,
      common_steps,
      mod-lt c.args.turn {m = c.count-items.result},
      starts_within _ _ _ q.in_order (c.args.key + 1),
      q.in_order.count c.args.key,
      q.in_order.count (c.args.key + 1),
      count_below_next c.args.key q.keys.items,
      q.sorted.inverse.same,
      q.in_order.same,
    )

pub returns-clause-some : goal.returns-clause-some
returns-clause-some c =
    let q = c.args.self.now in
    let place = c.index.result.now + c.args.turn % c.count-items.result in
    let within = key_there q.keys.items q.sorted.order.items q.sorted.places.items q.starts.items c.args.key place q.sorted.inverse q.in_order c.requires in
    grind (
      arith,
      common_steps,
      within,
      mod-lt c.args.turn {m = c.count-items.result},
      starts_within _ _ _ q.in_order (c.args.key + 1),
      q.in_order.count c.args.key,
      q.in_order.count (c.args.key + 1),
      count_below_next c.args.key q.keys.items,
      q.sorted.inverse.same,
      q.in_order.same,
    )
