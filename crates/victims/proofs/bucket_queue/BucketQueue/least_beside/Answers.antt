use Rattle.std.proofs.{Common.⊎_elim, Common.◌≡◌, Common.◌≤◌, Common.◌<◌, Common.length, Common.get_or, Common.arith, lemmas.Bool.cases_lt}
use Rattle.std.proofs.lemmas.Grind.{common_steps}
use Rattle.victims.proofs.Sorting.{in_key_order}
use Rattle.victims.proofs.bucket_queue.BucketQueue.least_beside.Goals as goal

pub returns-then-index-avoided : goal.returns-then-index-avoided
returns-then-index-avoided c i inside differs =
    let q = c.args.self.now in
    let order = q.sorted.order.items in
    let place = c.loop-place.place in
    let first : get_or order place 0 ≡ c.index.result.now = grind (arith, common_steps) in
    let at = get_or q.sorted.places.items i 0 in
    let behind : place ≤ at = ⊎_elim
    (λ before. absurd (grind (
      arith,
      common_steps,
      c.loop-place.invariant at before,
      q.sorted.inverse.place_of i,
      q.sorted.inverse.place_in i,
      q.sorted.inverse.same,
      q.in_order.same,
    )))
    (λ behind. behind)
    (cases_lt at place) in
    let inside_order : place < length order = grind (arith, common_steps) in
    grind (
      arith,
      common_steps,
      first,
      q.sorted.inverse.item_in place,
      q.in_order.same,
      in_key_order q.keys.items order q.sorted.places.items q.starts.items place i q.sorted.inverse q.in_order inside inside_order behind,
    )
