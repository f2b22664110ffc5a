use Rattle.std.proofs.Common.{ℕ, ◌≢◌, ◌-◌, ◌<◌, ◌≤◌, length, get_or}
use Rattle.ftl_one.proofs.fewest.first_of.Given as goal

abbrev pub invariant-loop-at : goal.invariant-loop-at
invariant-loop-at l = (l.at ≤ length l.counts) × ((k : ℕ) → k < l.at → get_or l.counts k 0 ≢ l.count)

abbrev pub decreases-loop-at : goal.decreases-loop-at
decreases-loop-at l = length l.counts - l.at

abbrev pub invariant-loop-at-2 : goal.invariant-loop-at-2
invariant-loop-at-2 l = (l.at ≤ length l.counts) × ((k : ℕ) → k < l.at → get_or l.counts k 0 ≢ l.count)

abbrev pub decreases-loop-at-2 : goal.decreases-loop-at-2
decreases-loop-at-2 l = length l.counts - l.at
