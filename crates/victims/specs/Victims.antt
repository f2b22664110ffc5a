-- What is known of the blocks of a device when one is chosen to be collected.
use Rattle.std.specs.Prelude.{◌≡◌, ℕ, ◌+◌, ◌<◌, ◌≤◌, ◌^◌, ◌==◌, ◌&&◌, Bool, true, false, List, length, map, count_by, nat_lt, slice_index, slice_index_or}
use Rattle.std.specs.List.{zip}

-- for each block how many pages it keeps, how often it was erased, and whether it may be collected; and the pages of a block
pub record Blocks : Type 0 where
  pub pages : ℕ
  pub kept : List ℕ
  pub erases : List ℕ
  pub eligible : List Bool

-- how many blocks there are
abbrev pub block_count : Blocks → ℕ
block_count s = length s.kept

-- how many pages the block keeps
abbrev pub kept_pages : Blocks → ℕ → ℕ
kept_pages s b = slice_index s.kept b

-- how often the block was erased
abbrev pub erase_count : Blocks → ℕ → ℕ
erase_count s b = slice_index s.erases b

-- each block has its counts, and keeps no more pages than it has
pub record AreCounted (s : Blocks) : Type 0 where
  pub erases : length s.erases ≡ block_count s
  pub eligible : length s.eligible ≡ block_count s
  pub within : (b : ℕ) → kept_pages s b ≤ s.pages
  pub few : block_count s < 2 ^ 32

-- the block is there, and may be collected
pub record IsEligible (s : Blocks) (b : ℕ) : Type 0 where
  pub inside : b < block_count s
  pub eligible : slice_index_or s.eligible b false ≡ true

-- the block is eligible, and no eligible block keeps fewer pages
pub record IsBestVictim (s : Blocks) (b : ℕ) : Type 0 where
  pub eligible : IsEligible s b
  pub fewest : (other : ℕ) → IsEligible s other → kept_pages s b ≤ kept_pages s other

-- the block is eligible, and keeps no page
pub record IsSpareBlock (s : Blocks) (b : ℕ) : Type 0 where
  pub eligible : IsEligible s b
  pub none : kept_pages s b ≡ 0

-- how many eligible blocks keep no page
abbrev pub spare_count : Blocks → ℕ
spare_count s = count_by (λ block. block.0 == 0 && block.1) (zip s.kept s.eligible)

-- a key sorts an eligible block behind those with fewer kept pages, and the others are first
pub record AreKeys (kept keys : List ℕ) : Type 0 where
  pub same : length keys ≡ length kept
  pub eligible : (b : ℕ) → b < length kept → 0 < slice_index keys b → slice_index keys b ≡ slice_index kept b + 1

-- an item with a key above 0 may be collected
abbrev pub are_above_zero : List ℕ → List Bool
are_above_zero keys = map (λ key. nat_lt 0 key) keys
