use Rattle.std.proofs.{Common.◌≡◌, Common.◌<◌, Common.length, Common.get_or, Common.arith, lemmas.Grind.common_steps}
use Rattle.victims.proofs.Sorting.{starts_within, first_is_least}
use Rattle.victims.proofs.bucket_queue.BucketQueue.least.Goals as goal

pub index-best-requires : goal.index-best-requires
index-best-requires c =
    let q = c.args.self.now in
    grind (arith, common_steps, starts_within _ _ _ q.in_order c.args.key, q.sorted.inverse.same, q.in_order.same)

pub loop-place-init : goal.loop-place-init
loop-place-init c =
    let q = c.args.self.now in
    let order = q.sorted.order.items in
    let first = c.index.result.now in
    let inside : first < length order = grind (
      arith,
      common_steps,
      starts_within _ _ _ q.in_order c.args.key,
      q.sorted.inverse.same,
      q.in_order.same,
    ) in
    let best : get_or order first 0 ≡ c.index-best.result.now = grind (arith, common_steps) in
    rw best at (first_is_least q.keys.items order q.sorted.places.items q.starts.items c.args.key first q.sorted.inverse q.in_order c.requires.key
    (grind (arith, common_steps)) inside)

pub returns-then-start-len-clause-none : goal.returns-then-start-len-clause-none
returns-then-start-len-clause-none c i inside =
    let q = c.args.self.now in
    grind (arith, common_steps, q.in_order.same, q.in_order.before c.args.key i, q.sorted.inverse.place_in i, q.sorted.inverse.same)
