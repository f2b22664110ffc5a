use Rattle.std.proofs.Common.{All, length}
use Rattle.std.specs.Vec.Iter.{into_iter_items}
use Rattle.volume.specs.Volume.{IsBroomReady}
use Rattle.workers.proofs.team.leaving.retire_brooms.Given as goal

abbrev pub invariant-loop-broom : goal.invariant-loop-broom
invariant-loop-broom l = All (IsBroomReady l.volume) (into_iter_items l.brooms)

abbrev pub decreases-loop-broom : goal.decreases-loop-broom
decreases-loop-broom l = length (into_iter_items l.brooms)
