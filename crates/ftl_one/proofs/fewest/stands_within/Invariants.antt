use Rattle.std.proofs.Common.{◌≡◌, ◌≢◌, ℕ, ◌+◌, ◌<◌, false, get_or}
use Rattle.ftl_one.proofs.fewest.stands_within.Given as goal

abbrev pub invariant-loop-i : goal.invariant-loop-i
invariant-loop-i l = l.found ≡ false → (k : ℕ) → k < l.i → get_or l.counts (l.at + k) 0 ≢ l.count
