use Rattle.std.specs.Vec.Iter.{into_iter_items}
use Rattle.broom.specs.Ready.{IsRested}
use Rattle.volume.proofs.FreshBrooms.{taken}
use Rattle.volume.proofs.opening.fold_seats.Goals as goal

pub fold_seat-requires : goal.fold_seat-requires
fold_seat-requires c = (taken (IsRested c.args.flash.now) c.in-Some.seat (into_iter_items c.next.new.self)
    (into_iter_items c.loop-seat.seats) c.in-Some.ensures.cases.0 c.loop-seat.invariant).0

pub loop-seat-preserved : goal.loop-seat-preserved
loop-seat-preserved c = (taken (IsRested c.args.flash.now) c.in-Some.seat (into_iter_items c.next.new.self)
    (into_iter_items c.loop-seat.seats) c.in-Some.ensures.cases.0 c.loop-seat.invariant).1
