use Rattle.std.proofs.Common.{◌+◌}
use Rattle.trace.proofs.UsualLines.{IsNumberSoFar}
use Rattle.trace.proofs.usual.usual_number.Given as goal

-- digits alone came so far, and this is their number
abbrev pub invariant-loop-i : goal.invariant-loop-i
invariant-loop-i l = IsNumberSoFar l.text l.start (l.start + l.i) l.value
