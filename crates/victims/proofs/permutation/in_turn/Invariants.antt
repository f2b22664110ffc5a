use Rattle.std.proofs.Common.{◌≡◌, ℕ, ◌<◌, length, get_or}
use Rattle.victims.proofs.permutation.in_turn.Given as goal

abbrev pub invariant-loop-i : goal.invariant-loop-i
invariant-loop-i l = (length l.numbers.items ≡ l.below) × ((k : ℕ) → k < l.i → get_or l.numbers.items k 0 ≡ k)
