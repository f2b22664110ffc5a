use Rattle.std.proofs.Common.{ℕ, ◌-◌, ◌<◌, ◌≤◌, length, get_or}
use Rattle.rounds.proofs.plan.past.Given as goal

abbrev pub invariant-loop-to : goal.invariant-loop-to
invariant-loop-to l = record {
  later : l.from ≤ l.to;
  within : l.to ≤ length l.row;
  before : (k : ℕ) → l.from ≤ k → k < l.to → get_or l.row k 0 < l.end;
}

abbrev pub decreases-loop-to : goal.decreases-loop-to
decreases-loop-to l = length l.row - l.to
