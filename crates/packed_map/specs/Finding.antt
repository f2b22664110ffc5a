-- A search for an index.
use Rattle.std.specs.Prelude.{ℕ, ◌≤◌, ◌<◌, Option, None, Some}

-- an index from a first one on and below an end at which this holds, or none if there is no such index
abbrev pub Finds : (ℕ → Type 0) → ℕ → ℕ → Option ℕ → Type 0
Finds Holds first end (Some i) = (first ≤ i) × (i < end) × Holds i
Finds Holds first end None = (i : ℕ) → first ≤ i → i < end → ¬ Holds i
