use Rattle.exports.proofs.DealtSeats.{AreClosedTo}
use Rattle.exports.proofs.shared.opening.are_closed.Given as goal

abbrev pub invariant-loop-handle : goal.invariant-loop-handle
invariant-loop-handle l = AreClosedTo l.handle-index l.handles
