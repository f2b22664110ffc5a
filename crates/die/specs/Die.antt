-- What a die shows: its geometry and its blocks, and how a command changes one of them.
use Rattle.std.specs.Prelude.{◌≡◌, ℕ, ◌+◌, ◌%◌, ◌^◌, ◌≢◌, ◌<◌, false, length}
use Rattle.geometry.specs.declared.{geometry.Geometry.Geometry, page_addr.PageAddr.PageAddr}
use Rattle.geometry.specs.Geometry.{blocks_of, endurance_of, page_bytes_of, pages_of}
use Rattle.die.specs.{declared.die.Die.Die, Pages.Block, Pages.new_block, Storage.block_in}

-- the numbers of the die
abbrev pub geometry_of : Die → Geometry
geometry_of d = d.geometry

-- how many blocks it has
abbrev pub blocks : Die → ℕ
blocks d = blocks_of (geometry_of d)

-- how many pages a block has
abbrev pub pages : Die → ℕ
pages d = pages_of (geometry_of d)

-- how many bytes a page has
abbrev pub page_bytes : Die → ℕ
page_bytes d = page_bytes_of (geometry_of d)

-- how many erases retire a block
abbrev pub endurance : Die → ℕ
endurance d = endurance_of (geometry_of d)

-- how many pages were copied back, modulo 2^64
abbrev pub copybacks_of : Die → ℕ
copybacks_of d = d.copybacks

-- a count that wraps at 2^64, plus one
abbrev pub one_more : ℕ → ℕ
one_more count = (count + 1) % 2 ^ 64

-- a block of the die
unfoldable pub block_of : Die → ℕ → Block
block_of d b = block_in (page_bytes d) (pages d) d.bytes.items d.stamps.items d.states.items b

-- one block is now this one; each other block and the geometry are as before
pub record ChangesBlock (old new : Die) (b : ℕ) (block : Block) : Type 0 where
  pub changed : block_of new b ≡ block
  pub others : (c : ℕ) → c ≢ b → c < blocks old → block_of new c ≡ block_of old c
  pub geometry : geometry_of new ≡ geometry_of old

-- the block is one of the die's and isn't retired
pub record IsUsable (d : Die) (b : ℕ) : Type 0 where
  pub within : b < blocks d
  pub not_retired : (block_of d b).retired ≡ false

-- the page is the next one of a usable block
pub record IsNext (d : Die) (at : PageAddr) : Type 0 where
  pub usable : IsUsable d at.block
  pub next : at.page ≡ length (block_of d at.block).pages
  pub within : at.page < pages d

-- the page is a programmed one of a usable block
pub record IsProgrammed (d : Die) (at : PageAddr) : Type 0 where
  pub usable : IsUsable d at.block
  pub programmed : at.page < length (block_of d at.block).pages

-- every block of the die is a new one, and no page was copied back
pub record IsNew (d : Die) (g : Geometry) : Type 0 where
  pub geometry : geometry_of d ≡ g
  pub blocks : (b : ℕ) → b < blocks_of g → block_of d b ≡ new_block
  pub copybacks : copybacks_of d ≡ 0
