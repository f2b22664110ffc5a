use Rattle.std.{proofs.Common.All, proofs.Common.length, specs.Vec.Iter.into_iter_items}
use Rattle.host.specs.Ready.{IsReady}
use Rattle.volume.proofs.closing.retire_all.Given as goal

abbrev pub invariant-loop-pass : goal.invariant-loop-pass
invariant-loop-pass l = All (IsReady l.flash) (into_iter_items l.passes)

abbrev pub decreases-loop-pass : goal.decreases-loop-pass
decreases-loop-pass l = length (into_iter_items l.passes)
