-- The page of each sector, and the bits that stand for it.
use Rattle.std.specs.Prelude.{ℕ, ◌-◌, ◌+◌, ◌*◌, ◌<◌, ◌/◌, ◌%◌, ◌==◌, List, Option, None, Some, if◌then◌else◌}
use Rattle.geometry.specs.declared.page_addr.PageAddr.{PageAddr}

-- the page of each sector, or none
pub record Entries : Type 0 where
  pub items : List (Option PageAddr)

-- the page of a place: the low 14 bits of its page, then 32 bits of its block, then the others of its page
abbrev pub page_at : ℕ → PageAddr
page_at place = record { block = place / 16384 % 4294967296; page = place / 70368744177664 * 16384 + place % 16384 }

-- the entry that bits stand for: none by 0, and places are counted from 1
unfoldable pub entry_of : ℕ → Option PageAddr
entry_of bits = if bits == 0 then None else Some (page_at (bits - 1))

-- the page is not the last one of the last block of all, since places are counted from 1
abbrev pub IsPackable : Option PageAddr → Type 0
IsPackable None = Unit {0}
IsPackable (Some at) = at.block + at.page < 8589934590
