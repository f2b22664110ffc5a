use Rattle.std.proofs.Common.{length}
use Rattle.std.specs.Arc.{arc_value}
use Rattle.host.specs.Ready.{IsReady}
use Rattle.volume.specs.Volume.{flash_of}
use Rattle.exports.specs.Opening.{IsFirstPass, IsFreshHost}
use Rattle.exports.proofs.DealtSeats.{DealsOn}
use Rattle.exports.proofs.shared.opening.seat_hosts.Given as goal

abbrev pub invariant-loop-pass : goal.invariant-loop-pass
invariant-loop-pass l = DealsOn (IsReady (flash_of (arc_value l.volume))) (IsFirstPass (arc_value l.volume))
    (IsFreshHost (arc_value l.volume)) l.passes.items l.handles (length l.fn.handles)

abbrev pub decreases-loop-pass : goal.decreases-loop-pass
decreases-loop-pass l = length l.passes.items
