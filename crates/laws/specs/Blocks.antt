-- States, pages, blocks and stocks, as the laws of dies, of devices and of their numbers and words name them.
use Rattle.std.specs.Prelude.{ℕ, List, ◌∷◌, ◌++◌, replicate, ◌≡◌, [], Bool, true, false}
use Rattle.geometry.specs.declared.words.Phase.{Phase}
use Rattle.geometry.specs.declared.words.PinWord.{PinWord}
use Rattle.geometry.specs.declared.geometry.Geometry.{Geometry}
use Rattle.geometry.specs.declared.page_addr.PageAddr.{PageAddr}
use Rattle.geometry.specs.Geometry.{blocks_of, luns_of, endurance_of}
use Rattle.die.specs.declared.die.BlockState.{BlockState}
use Rattle.ftl_one.specs.declared.role.Role.TheVariants as role
use Rattle.ftl_one.specs.declared.role.Role.{Role}
use Rattle.ftl_one.specs.Stock.{Entry, Stock}
use Rattle.ftl_one.specs.Stock as stock

-- a block with this many readers, in this phase, with this many pages written, in this generation
abbrev pub a_state : ℕ → Phase → ℕ → ℕ → PinWord
a_state readers p written generation = record { readers = readers; phase = p; written = written; generation = generation }

-- a page of two words, 1 and 512
abbrev pub two_words : List ℕ
two_words = (1 ∷ replicate 7 0) ++ 0 ∷ 2 ∷ replicate 6 0

-- a page's address
abbrev pub at : ℕ → ℕ → PageAddr
at block page = record { block = block; page = page }

-- a die's block with this many pages programmed and this many erases
abbrev pub in_state : ℕ → ℕ → Bool → BlockState
in_state next erases retired = record { next = next; erases = erases; retired = retired }

-- a live page of a sector, and a dead one
abbrev pub live : ℕ → Entry
live sector = record { sector = sector; live = true }

-- a dead page of a sector
abbrev pub dead : ℕ → Entry
dead sector = record { sector = sector; live = false }

-- a block of this role with these pages, never erased
abbrev pub block_with : Role → List Entry → stock.Block
block_with r entries = record { role = r; erases = 0; entries = entries }

-- these blocks, with no totals
abbrev pub stock_with : List stock.Block → Stock
stock_with blocks = record { blocks = blocks; programs = 0; copies = 0; erases = 0 }

-- a device of three blocks, with these LUNs and this endurance
pub record HasThreeBlocks (g : Geometry) (l e : ℕ) : Type 0 where
  pub blocks : blocks_of g ≡ 3
  pub luns : luns_of g ≡ l
  pub endurance : endurance_of g ≡ e

-- an empty block of this role that was erased once
abbrev pub erased_once : Role → stock.Block
erased_once r = record { role = r; erases = 1; entries = [] }

-- a closed block with a live page of sector 0 and a dead one, a spare, and a retired block
abbrev pub half_live : Stock
half_live = stock_with (block_with role.Closed (live 0 ∷ dead 0 ∷ []) ∷ block_with role.Spare [] ∷ block_with role.Retired [] ∷ [])

-- the same stock after its collection: the live page is in the other block
abbrev pub half_moved : Stock
half_moved = stock_with (erased_once role.Spare ∷ block_with role.Open (live 0 ∷ []) ∷ block_with role.Retired [] ∷ [])

-- a closed block with a dead page and a live one, whose sectors are 7 and 8, and a spare
abbrev pub before_write : Stock
before_write = stock_with (block_with role.Closed (dead 7 ∷ live 8 ∷ []) ∷ block_with role.Spare [] ∷ [])

-- the stock after that block was collected, and sector 9 written; the erased block has this role
abbrev pub written_after : Role → Stock
written_after r = record { blocks = erased_once r ∷ block_with role.Closed (live 8 ∷ live 9 ∷ []) ∷ []; programs = 1; copies = 1; erases = 1 }
