use Rattle.std.proofs.Common.{◌≡◌, length}
use Rattle.exports.proofs.DealtSeats.{AreClosedTo}
use Rattle.exports.proofs.shared.opening.close_all.Given as goal

abbrev pub invariant-loop-handle : goal.invariant-loop-handle
invariant-loop-handle l = AreClosedTo l.handle-index l.handles × (length l.handles ≡ length l.fn.handles)
