-- The blocks of a stock as a store and the roles give them, and what the layer keeps true of them: by their roles, how many pages they have and
-- whether they are retired.
use Rattle.std.specs.Prelude.{◌≡◌, ℕ, ◌<◌, ◌≤◌, Bool, true, false, List, Option, Some, slice_index_or, ◌+◌, ◌*◌, length, map}
use Rattle.ftl_one.specs.declared.role.Role.{Role}
use Rattle.ftl_one.specs.Stock.{is_retired, Block}
use Rattle.ftl_one.specs.declared.role.Role.TheVariants.{Open, Closed, Spare, Retired}
use Rattle.std.specs.List.{range_with_len}
use Rattle.ftl_one.specs.declared.store.Store.{Store}
use Rattle.ftl_one.specs.Store.{entries_of, erases_of}

-- a block of this role has pages
abbrev pub has_pages : Role → Bool
has_pages Open = true
has_pages Closed = true
has_pages _ = false

-- the role of a block
abbrev pub role_in : List Role → ℕ → Role
role_in roles b = slice_index_or roles b Retired

-- the open block is the one that is remembered, with a page left; closed blocks are full and the other blocks empty; the blocks that the
-- die has retired are those with that role; there is at most one spare, and none if a block is retired
pub record IsLawful (count pages : ℕ) (size : ℕ → ℕ) (retired : ℕ → Bool) (role : ℕ → Role) (open_block : Option ℕ) : Type 0 where
  pub open_is : (b : ℕ) → role b ≡ Open → open_block ≡ Some b
  pub open_at : (b : ℕ) → open_block ≡ Some b → role b ≡ Open
  pub room : (b : ℕ) → role b ≡ Open → size b < pages
  pub full : (b : ℕ) → role b ≡ Closed → size b ≡ pages
  pub unused : (b : ℕ) → b < count → has_pages (role b) ≡ false → size b ≡ 0
  pub usable : (b : ℕ) → b < count → retired b ≡ is_retired (role b)
  pub one_spare : (b c : ℕ) → role b ≡ Spare → role c ≡ Spare → b ≡ c
  pub spare_last : (b c : ℕ) → c < count → role b ≡ Spare → role c ≡ Retired → ⊥
  pub outside : (b : ℕ) → count ≤ b → role b ≡ Retired

-- the spare is the one that is remembered
pub record KnowsSpare (role : ℕ → Role) (spare : Option ℕ) : Type 0 where
  pub spare_is : (b : ℕ) → role b ≡ Spare → spare ≡ Some b
  pub spare_at : (b : ℕ) → spare ≡ Some b → role b ≡ Spare

-- a block
abbrev pub block_in : Store → List Role → ℕ → Block
block_in store roles b = record { role = role_in roles b; erases = erases_of store b; entries = entries_of store b }

-- all blocks
unfoldable pub blocks_in : Store → List Role → List Block
blocks_in store roles = map (block_in store roles) (range_with_len 0 (length roles))

-- what a block's programmed pages and erases so far add to a bound of the totals
abbrev pub weight : ℕ → Block → ℕ
weight pages block = (pages + 1) * block.erases + length block.entries
