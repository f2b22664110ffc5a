-- The history of a map: which version each sector got, one change after another, the newest first. It knows no page and no word.
use Rattle.std.specs.Prelude.{◌≡◌, ◌==◌, ◌+◌, ◌/◌, ℕ, zero, suc, List, [], ◌∷◌, ◌++◌, if◌then◌else◌}

-- the number of the version that a word names, with so many pages to a number; 0 if it names none
abbrev pub version_in : ℕ → ℕ → ℕ
version_in pages word = word / pages

-- the number of the sector's version after these changes, each of a sector and the number that it got; 0 if it is empty
abbrev pub version_after : List (ℕ × ℕ) → ℕ → ℕ
version_after [] s = 0
version_after (change ∷ earlier) s = if s == change.0 then change.1 else version_after earlier s

-- the first history goes on from the second: it has its changes, and perhaps newer ones
abbrev pub Continues : List (ℕ × ℕ) → List (ℕ × ℕ) → Type 0
Continues whole first = (newer : List (ℕ × ℕ)) × (whole ≡ newer ++ first)

-- the history with so many sectors in a row made empty, from the first one on
abbrev pub cleared_after : List (ℕ × ℕ) → ℕ → ℕ → List (ℕ × ℕ)
cleared_after history first zero = history
cleared_after history first (suc count) = (first + count, 0) ∷ cleared_after history first count
