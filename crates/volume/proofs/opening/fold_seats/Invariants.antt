use Rattle.std.{proofs.Common.All, proofs.Common.length, specs.Vec.Iter.into_iter_items}
use Rattle.broom.specs.Ready.{IsRested}
use Rattle.volume.proofs.opening.fold_seats.Given as goal

abbrev pub invariant-loop-seat : goal.invariant-loop-seat
invariant-loop-seat l = All (IsRested l.flash) (into_iter_items l.seats)

abbrev pub decreases-loop-seat : goal.decreases-loop-seat
decreases-loop-seat l = length (into_iter_items l.seats)
