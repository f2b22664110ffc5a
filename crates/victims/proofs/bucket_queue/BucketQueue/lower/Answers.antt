use Rattle.std.proofs.{Common.◌+◌, Common.arith, Common.length-set, lemmas.Grind.common_steps}
use Rattle.victims.proofs.Sorting.{lowered}
use Rattle.victims.proofs.bucket_queue.BucketQueue.lower.Goals as goal

pub move_to-requires-clause-to : goal.move_to-requires-clause-to
move_to-requires-clause-to c =
    let q = c.args.self.now in
    grind (
      arith,
      common_steps,
      q.in_order.in_range c.args.item,
      q.in_order.before c.index-key.result.now c.args.item,
      q.sorted.inverse.place_in c.args.item,
      q.sorted.inverse.same,
    )

pub invariant_of-self-clause-in_order : goal.invariant_of-self-clause-in_order
invariant_of-self-clause-in_order c =
    let q = c.args.self.now in
    let old = q.sorted.places.items in
    let new = c.move_to.new.self.places.items in
    let step = lowered q.keys.items q.sorted.order.items old new q.starts.items c.args.item q.sorted.inverse q.in_order c.requires.item in
    step c.move_to.ensures.length _ _ _ (grind (arith, common_steps)) (grind (arith, common_steps)) (grind (
      arith,
      common_steps,
    )) c.move_to.ensures.moved

pub invariant_of-self-clause-narrow : goal.invariant_of-self-clause-narrow
invariant_of-self-clause-narrow c = omega (
  arith,
  c.args.self.now.narrow,
  length-set c.args.self.now.starts.items c.index-key.result.now (c.index-first.result.now + 1),
)
