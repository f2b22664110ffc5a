use Rattle.std.{proofs.Common.◌+◌, proofs.Common.◌≤◌, proofs.Common.length, specs.Vec.Iter.into_iter_items}
use Rattle.volume.proofs.FreshBrooms.{Making}
use Rattle.volume.proofs.opening.make_brooms.Given as goal

abbrev pub invariant-loop-seat : goal.invariant-loop-seat
invariant-loop-seat l = Making l.flash l.queue l.fn.seats.items l.brooms.items (into_iter_items l.seats) l.places.items
    × (length l.brooms.items + length (into_iter_items l.seats) ≤ l.brooms.cap)

abbrev pub decreases-loop-seat : goal.decreases-loop-seat
decreases-loop-seat l = length (into_iter_items l.seats)
