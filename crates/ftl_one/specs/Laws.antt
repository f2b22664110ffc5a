-- What a write may do to the stock, in terms of the device.
use Rattle.std.specs.Prelude.{◌≡◌, ℕ, ◌≢◌, ◌+◌, ◌<◌, ◌≤◌, ◌⊎◌, length, slice_index_or, None}
use Rattle.ftl_one.specs.declared.role.Role.TheVariants.{Closed, Retired}
use Rattle.ftl_one.specs.Stock.{Stock, Block, free_of, live_of, open_of, spare_of, unused}

-- a block of the stock
abbrev pub block_at : Stock → ℕ → Block
block_at stock b = slice_index_or stock.blocks b (unused Retired)

-- no block is erased, and no page relocated
pub record ErasesNothing (old new : Stock) : Type 0 where
  pub blocks : (b : ℕ) → (block_at new b).erases ≡ (block_at old b).erases
  pub erases : new.erases ≡ old.erases
  pub copies : new.copies ≡ old.copies

-- one closed block is erased, once; no closed block has fewer live pages, and as many pages are relocated as it has live ones: which ones
-- the stock's own step says
pub record Collects (old new : Stock) (victim : ℕ) : Type 0 where
  pub closed : (block_at old victim).role ≡ Closed
  pub fewest : (b : ℕ) → (block_at old b).role ≡ Closed → live_of (block_at old victim) ≤ live_of (block_at old b)
  pub erased : (block_at new victim).erases ≡ (block_at old victim).erases + 1
  pub others : (b : ℕ) → b ≢ victim → (block_at new b).erases ≡ (block_at old b).erases
  pub erases : new.erases ≡ old.erases + 1
  pub copies : new.copies ≡ old.copies + live_of (block_at old victim)

-- at most one block is collected
abbrev pub CollectsAtMostOne : Stock → Stock → Type 0
CollectsAtMostOne old new = ErasesNothing old new ⊎ ((victim : ℕ) × Collects old new victim)

-- an erase of some block has failed
abbrev pub HasRetired : Stock → Type 0
HasRetired stock = (b : ℕ) × (b < length stock.blocks) × ((block_at stock b).role ≡ Retired)

-- no page is left to program, and none can be gained: no block is open, none is free, and there is no spare
pub record HasNoPage (stock : Stock) : Type 0 where
  pub no_open : open_of stock.blocks ≡ None
  pub no_free : free_of stock.blocks ≡ None
  pub no_spare : spare_of stock.blocks ≡ None
