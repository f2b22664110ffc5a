use Rattle.std.proofs.Common.{All, length}
use Rattle.std.specs.Vec.Iter.{into_iter_items}
use Rattle.host.specs.Ready.{IsReady}
use Rattle.volume.specs.Volume.{flash_of}
use Rattle.workers.proofs.team.leaving.retire_all.Given as goal

abbrev pub invariant-loop-pass : goal.invariant-loop-pass
invariant-loop-pass l = All (IsReady (flash_of l.volume)) (into_iter_items l.passes)

abbrev pub decreases-loop-pass : goal.decreases-loop-pass
decreases-loop-pass l = length (into_iter_items l.passes)
