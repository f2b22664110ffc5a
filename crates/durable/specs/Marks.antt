-- Which sectors a mount has marked, since a page has a value of them: by a bit for each, in words of 64.
use Rattle.std.specs.Prelude.{◌≡◌, ◌==◌, ◌/◌, ◌%◌, ℕ, Bool, true, false, List, length, Option, None, Some, slice_index_or}
use Rattle.std.specs.Int.{bit_at}
use Rattle.durable.specs.declared.extent.Extent.{Extent}
use Rattle.durable.specs.declared.found.Stamp.{Stamp}
use Rattle.durable.specs.Updates.{Covers}

-- whether a sector is marked, by its bit
unfoldable pub is_valued : List ℕ → ℕ → Bool
is_valued marks s = bit_at (slice_index_or marks (s / 64) 0) (s % 64) == 1

-- the sectors of an extent are marked, and the others as before
pub record MarksAll (old new : List ℕ) (extent : Extent) : Type 0 where
  pub size : length new ≡ length old
  pub covered : (s : ℕ) → Covers extent s → is_valued new s ≡ true
  pub others : (s : ℕ) → ¬ Covers extent s → is_valued new s ≡ is_valued old s

-- the same, if they have a value and no trim
abbrev pub MarksValues : Bool → List ℕ → List ℕ → Extent → Type 0
MarksValues true old new extent = new ≡ old
MarksValues false old new extent = MarksAll old new extent

-- the marks of the sectors that a page has a value of, with one page more
abbrev pub IsMarkedWith : List ℕ → List ℕ → Option Stamp → Type 0
IsMarkedWith old new None = new ≡ old
IsMarkedWith old new (Some stamp) = MarksValues stamp.is_trim old new stamp.extent
