-- What a modelled chip holds.
use Rattle.std.specs.Prelude.{◌≡◌, ◌≢◌, ℕ, List, [], map, Vec, slice_index_or}
use Rattle.std.specs.declared.alloc.Global.{Global}
use Rattle.durable.specs.Flash.{PageContents, Erased, Torn, Version, Flash, is_trim}
use Rattle.nand.specs.declared.cells.Page.{Page}
use Rattle.nand.specs.declared.cells.Page.TheVariants as page
use Rattle.nand.specs.declared.flash.Reading.{Reading}
use Rattle.nand.specs.declared.flash.Reading.TheVariants as outcome
use Rattle.nand.specs.Nand.{value_with}

-- what a page holds
abbrev pub contents_of : Page → PageContents
contents_of page.Erased = Erased
contents_of page.Torn = Torn
contents_of (page.Version stamp main) = Version stamp.extent stamp.number (value_with stamp.trimmed main.items)

-- the pages of a block
abbrev pub pages_in : List (Vec Page Global) → ℕ → List Page
pages_in blocks b = slice_index_or (map (λ block. block.items) blocks) b []

-- what each page holds. Pages that the chip doesn't have are erased
abbrev pub flash_in : List (Vec Page Global) → Flash
flash_in blocks b p = contents_of (slice_index_or (pages_in blocks b) p page.Erased)

-- what a read of a page's stamp says
abbrev pub reading_of : PageContents → Reading
reading_of Erased = outcome.Erased
reading_of Torn = outcome.Unreadable
reading_of (Version extent number value) = outcome.Version (record { extent = extent; number = number; trimmed = is_trim value })

-- the block is erased, and no other has changed
abbrev pub IsWiped : Flash → Flash → ℕ → Type 0
IsWiped f t b = ((p : ℕ) → t b p ≡ Erased) × ((d p : ℕ) → d ≢ b → t d p ≡ f d p)
