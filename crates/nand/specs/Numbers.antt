-- The numbers that the layer gives to the blocks of a chip: first to the good ones, of which some are in use and the others are a reserve, and then to
-- those that are marked bad.
use Rattle.std.specs.Prelude.{◌≡◌, ◌≢◌, ◌<◌, ◌≤◌, ◌+◌, ◌-◌, ◌/◌, ℕ, max, zero, suc, Bool, true, false, List, if◌then◌else◌, length, slice_index_or}
use Rattle.geometry.specs.declared.page_addr.PageAddr.{PageAddr}
use Rattle.durable.specs.Flash.{Flash}

-- the chip's block that has this number
abbrev pub chip_block : List ℕ → ℕ → ℕ
chip_block numbers c = slice_index_or numbers c c

-- the chip's page
abbrev pub chip_page : List ℕ → PageAddr → PageAddr
chip_page numbers at = record { block = chip_block numbers at.block; page = at.page }

-- the pages of the blocks in this order
abbrev pub numbered : List ℕ → Flash → Flash
numbered numbers f c p = f (chip_block numbers c) p

-- the block is marked bad
abbrev pub is_marked : List Bool → ℕ → Bool
is_marked bad b = slice_index_or bad b false

-- how many blocks before this one aren't marked bad
abbrev pub good_before : List Bool → ℕ → ℕ
good_before bad zero = 0
good_before bad (suc b) = good_before bad b + (if is_marked bad b then 0 else 1)

-- how many good blocks are in use at most: all blocks of the chip but the spare ones, but as many as the sectors need
abbrev pub most_in_use : ℕ → ℕ → ℕ → ℕ → ℕ
most_in_use blocks spare pages sectors = max (blocks - spare) (sectors / pages + 2)

-- the block is in use: it is good, and has one of the first numbers
abbrev pub IsInUse : List Bool → ℕ → ℕ → Type 0
IsInUse bad most b = (is_marked bad b ≡ false) × (good_before bad b < most)

-- the block is in reserve: it is good, and has one of the numbers after those
abbrev pub IsInReserve : List Bool → ℕ → ℕ → Type 0
IsInReserve bad most b = (is_marked bad b ≡ false) × (most ≤ good_before bad b)

-- this block is marked bad, and the others are as they were
abbrev pub Marks : List Bool → List Bool → ℕ → Type 0
Marks before now b = (is_marked now b ≡ true) × ((d : ℕ) → d ≢ b → is_marked now d ≡ is_marked before d)

-- each of so many blocks has one number. First come the good ones: those in use, in any order, and then the reserve, from its last block to its first;
-- and then come the bad ones. A number past them stands for itself
pub record IsOrder (numbers : List ℕ) (bad : List Bool) (blocks most : ℕ) : Type 0 where
  pub all : length numbers ≡ blocks
  pub to : ℕ → ℕ
  pub found : (c : ℕ) → to (chip_block numbers c) ≡ c
  pub put : (b : ℕ) → chip_block numbers (to b) ≡ b
  pub good : (c : ℕ) → c < good_before bad blocks → is_marked bad (chip_block numbers c) ≡ false
  pub reserved : (c : ℕ) → most ≤ c → c < good_before bad blocks → good_before bad (chip_block numbers c) + c + 1 ≡ most + good_before bad blocks
  pub others : (c : ℕ) → good_before bad blocks ≤ c → c < blocks → is_marked bad (chip_block numbers c) ≡ true
