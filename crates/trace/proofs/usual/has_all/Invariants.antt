use Rattle.std.proofs.Common.{◌≡◌, ◌+◌, ◌<◌, ℕ, get_or}
use Rattle.trace.proofs.usual.has_all.Given as goal

-- the first bytes are the same
abbrev pub invariant-loop-i : goal.invariant-loop-i
invariant-loop-i l = (k : ℕ) → k < l.i → get_or l.text (l.start + k) 0 ≡ get_or l.bytes k 0
