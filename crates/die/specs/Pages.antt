-- A die as the standard sees it: blocks, each a list of programmed pages.
use Rattle.std.specs.Prelude.{ℕ, ◌+◌, ◌==◌, Bool, false, List, [], ◌∷◌, ◌++◌, slice_index_or, replicate}

-- a programmed page: its main bytes, and the stamp in its spare bytes
pub record Page : Type 0 where
  pub value : List ℕ
  pub stamp : ℕ

-- a block: its programmed pages in order, how many erase commands it has had, and whether it is retired
pub record Block : Type 0 where
  pub pages : List Page
  pub erases : ℕ
  pub retired : Bool

-- what a read of a page that isn't programmed returns: every bit is one, of each byte and of the 64 bits of the stamp
abbrev pub erased_page : ℕ → Page
erased_page page_bytes = record { value = replicate page_bytes 255; stamp = 18446744073709551615 }

-- the page that a read of an index in a block returns
abbrev pub page_at : ℕ → Block → ℕ → Page
page_at page_bytes block place = slice_index_or block.pages place (erased_page page_bytes)

-- the block after one more page is programmed, behind the others
abbrev pub programmed : Block → Page → Block
programmed block page = record block { pages = block.pages ++ page ∷ [] }

-- the block after an erase command: no page is programmed, and the last erase of its endurance retires it
abbrev pub erased : ℕ → Block → Block
erased endurance block = record { pages = []; erases = block.erases + 1; retired = block.erases + 1 == endurance }

-- a block of a new die
abbrev pub new_block : Block
new_block = record { pages = []; erases = 0; retired = false }
