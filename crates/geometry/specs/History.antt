-- The history of an array of sectors: the calls that change it, in order.
use Rattle.std.specs.{Prelude.◌≡◌, Prelude.ℕ, Prelude.List, Prelude.None, Prelude.Some, Prelude.◌++◌, Prelude.slice_set, Prelude.replicate, List.fold}
use Rattle.geometry.specs.{declared.answer.Was.Was, Sectors.Sector, Sectors.sector_at, Sectors.was_of}

-- a call that may change the array: the number of the pass that makes it, the sector, and for a write the value. A write of an empty sector
-- takes effect only if the sector is empty
pub data Call : Type 0 where
  Write : ℕ → ℕ → List ℕ → Call
  WriteNew : ℕ → ℕ → List ℕ → Call
  Trim : ℕ → ℕ → Call

-- the array with a value put at a sector that now holds this: an empty sector gets the value, a written one keeps its own
abbrev pub put_new : List Sector → ℕ → Sector → List ℕ → List Sector
put_new array s None value = slice_set array s (Some value)
put_new array s (Some _) value = array

-- the array after one more call: a write puts its value at its sector; a write of an empty sector does so if the sector is empty, and
-- otherwise changes nothing; a trim empties the sector
abbrev pub step : List Sector → Call → List Sector
step array (Write pass s value) = slice_set array s (Some value)
step array (WriteNew pass s value) = put_new array s (sector_at array s) value
step array (Trim pass s) = slice_set array s None

-- the array of this many sectors after the calls of a history, in order; before the first call all sectors are empty
abbrev pub after : ℕ → List Call → List Sector
after sectors history = fold step (replicate sectors None) history

-- what a sector holds after a history
abbrev pub held : ℕ → List Call → ℕ → Sector
held sectors history s = sector_at (after sectors history) s

-- what a sector was after a history: empty or written
abbrev pub was : ℕ → List Call → ℕ → Was
was sectors history s = was_of (held sectors history s)

-- the second list is the first one followed by some list
abbrev pub Begins : {X : Type 0} → List X → List X → Type 0
Begins {X} first whole = (others : List X) × (first ++ others ≡ whole)
