-- Searches for an index.
use Rattle.std.proofs.Common.{◌≡◌, ℕ, ◌+◌, ◌≤◌, ◌<◌, Option, None, Some, ⊎_elim, arith, subst}
use Rattle.std.proofs.lemmas.Bool.{cases_lt}
use Rattle.packed_map.specs.Finding.{Finds}

-- the last index looked at
pub found_last : (Holds : ℕ → Type 0) (first i : ℕ) → first ≤ i → Holds i → Finds Holds first (i + 1) (Some i)
found_last Holds first i le holds = (le, omega arith, holds)

-- one more index is looked at in vain
pub found_before : (Holds : ℕ → Type 0) (first i : ℕ) (found : Option ℕ) → Finds Holds first i found → ¬ Holds i → Finds Holds first (i + 1) found
found_before Holds first i (Some j) (le, lt, holds) fails = (le, omega (arith, lt), holds)
found_before Holds first i None none fails = λ j le lt holds. ⊎_elim
    (λ (below : j < i). none j le below holds)
    (λ (above : i ≤ j). let same : j ≡ i = omega (arith, lt, above) in fails (subst Holds same holds))
    (cases_lt j i)

-- another thing holds at the same indices
pub found_same : (Holds Does : ℕ → Type 0) (first end : ℕ) (found : Option ℕ)
    → ((i : ℕ) → first ≤ i → i < end → Holds i → Does i) → ((i : ℕ) → first ≤ i → i < end → Does i → Holds i)
    → Finds Holds first end found → Finds Does first end found
found_same Holds Does first end (Some i) to from (le, lt, holds) = (le, lt, to i le lt holds)
found_same Holds Does first end None to from none = λ i le lt does. none i le lt (from i le lt does)
