-- The array of sectors, as a host sees it. It knows no page, block or word.
use Rattle.std.specs.Prelude.{◌≡◌, ℕ, List, Option, None, Some, slice_index_or}
use Rattle.geometry.specs.declared.answer.{Got.Got, Was.Was}
use Rattle.geometry.specs.declared.answer.Got.TheVariants as got
use Rattle.geometry.specs.declared.answer.Was.TheVariants as was

-- a sector is empty, or holds a value: the bytes of one page
abbrev pub Sector : Type 0
Sector = Option (List ℕ)

-- what the array holds at an index
abbrev pub sector_at : List Sector → ℕ → Sector
sector_at array s = slice_index_or array s None

-- whether a sector is empty or written
abbrev pub was_of : Sector → Was
was_of None = was.Empty
was_of (Some _) = was.Written

-- what a read has to return: an empty sector leaves the buffer as it was, a written one fills it with its value
abbrev pub Answers : Sector → Got → List ℕ → List ℕ → Type 0
Answers None answer old new = (answer ≡ got.Empty) × (new ≡ old)
Answers (Some value) answer old new = (answer ≡ got.Data) × (new ≡ value)
