use Rattle.std.proofs.Common.{All}
use Rattle.volume.specs.Volume.{IsBroomReady}
use Rattle.exports.proofs.shared.opening.retire_brooms.Given as goal

abbrev pub invariant-loop-broom : goal.invariant-loop-broom
invariant-loop-broom l = All (IsBroomReady l.volume) l.brooms.items

abbrev pub decreases-loop-broom : goal.decreases-loop-broom
decreases-loop-broom l = goal.left-loop-broom l
