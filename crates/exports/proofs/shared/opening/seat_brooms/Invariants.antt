use Rattle.std.proofs.Common.{length}
use Rattle.std.specs.Arc.{arc_value}
use Rattle.volume.specs.Volume.{IsBroomReady}
use Rattle.exports.specs.Opening.{IsFirstBroom, IsFreshBroom}
use Rattle.exports.proofs.DealtSeats.{DealsOn}
use Rattle.exports.proofs.shared.opening.seat_brooms.Given as goal

abbrev pub invariant-loop-broom : goal.invariant-loop-broom
invariant-loop-broom l = DealsOn (IsBroomReady (arc_value l.volume)) (IsFirstBroom (arc_value l.volume))
    (IsFreshBroom (arc_value l.volume)) l.brooms.items l.handles (length l.fn.handles)

abbrev pub decreases-loop-broom : goal.decreases-loop-broom
decreases-loop-broom l = length l.brooms.items
