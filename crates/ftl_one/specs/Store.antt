-- What a store shows: the array of sectors, and its blocks with the entries of their pages.
use Rattle.std.specs.Prelude.{◌≡◌, ℕ, ◌≢◌, ◌+◌, ◌<◌, ◌≤◌, Bool, true, false, List, [], ◌∷◌, ◌++◌, length, map, slice_set, slice_index_or, replicate, None, ◌==◌}
use Rattle.geometry.specs.{declared.geometry.Geometry.Geometry, declared.page_addr.PageAddr.PageAddr, Sectors.Sector}
use Rattle.geometry.specs.Geometry as geo
use Rattle.die.specs.Die as die
use Rattle.ftl_one.specs.{declared.store.Store.Store, Entries.entries_in, Entries.sectors_in, Entries.live_count}
use Rattle.ftl_one.specs.Stock.{Entry, forgotten, live_entries}

-- the numbers of the die below
abbrev pub geometry_of : Store → Geometry
geometry_of store = die.geometry_of store.die

-- the array of sectors
unfoldable pub array_of : Store → List Sector
array_of store = sectors_in (geo.page_bytes_of (die.geometry_of store.die)) (die.block_of store.die) store.current.items

-- the entries of a block's pages
unfoldable pub entries_of : Store → ℕ → List Entry
entries_of store b = entries_in (geo.page_bytes_of (die.geometry_of store.die)) store.current.items b (die.block_of store.die b)

-- the erase commands of a block so far
unfoldable pub erases_of : Store → ℕ → ℕ
erases_of store b = (die.block_of store.die b).erases

-- whether a block is retired
unfoldable pub retired_of : Store → ℕ → Bool
retired_of store b = (die.block_of store.die b).retired

-- the counts of live pages
unfoldable pub counts_of : Store → List ℕ
counts_of store = store.live.items

-- no block was erased or retired, and the geometry is as before
pub record KeepsBlocks (old new : Store) : Type 0 where
  pub geometry : geometry_of new ≡ geometry_of old
  pub erases : (b : ℕ) → b < geo.blocks_of (geometry_of old) → erases_of new b ≡ erases_of old b
  pub retired : (b : ℕ) → b < geo.blocks_of (geometry_of old) → retired_of new b ≡ retired_of old b

-- the block is in use and has a page left
pub record HasRoom (store : Store) (b : ℕ) : Type 0 where
  pub within : b < geo.blocks_of (geometry_of store)
  pub not_retired : retired_of store b ≡ false
  pub room : length (entries_of store b) < geo.pages_of (geometry_of store)

-- the block is in use and has this many pages left
pub record HasRoomFor (store : Store) (b pages : ℕ) : Type 0 where
  pub within : b < geo.blocks_of (geometry_of store)
  pub not_retired : retired_of store b ≡ false
  pub room : length (entries_of store b) + pages ≤ geo.pages_of (geometry_of store)

-- the entry of a page
abbrev pub entry_at : Store → PageAddr → Entry
entry_at store at = slice_index_or (entries_of store at.block) at.page (record { sector = 0; live = false })

-- whether a page is live, and the sector that it was written for
abbrev pub live_at : Store → PageAddr → Bool
live_at store at = (entry_at store at).live

-- the sector for which a page was programmed
abbrev pub sector_of : Store → PageAddr → ℕ
sector_of store at = (entry_at store at).sector

-- each entry of the sector is dead, and nothing else has changed in a block
abbrev pub Forgets : Store → Store → ℕ → ℕ → Type 0
Forgets old new sector b = entries_of new b ≡ map (forgotten sector) (entries_of old b)

-- a page of the sector is put behind a block's others: it is live, and the sector's other pages are dead
pub record Puts (old new : Store) (b sector : ℕ) : Type 0 where
  pub changed : entries_of new b ≡ map (forgotten sector) (entries_of old b) ++ (record { sector = sector; live = true }) ∷ []
  pub others : (c : ℕ) → c ≢ b → c < geo.blocks_of (geometry_of old) → Forgets old new sector c
  pub keeps : KeepsBlocks old new

-- a live page is copied behind a block's others: the copy is live and the page is dead
pub record Relocates (old new : Store) (source : PageAddr) (b sector : ℕ) : Type 0 where
  pub copied : entries_of new b ≡ entries_of old b ++ (record { sector = sector; live = true }) ∷ []
  pub dead : entries_of new source.block ≡ slice_set (entries_of old source.block) source.page (record { sector = sector; live = false })
  pub others : (c : ℕ) → c ≢ b → c ≢ source.block → c < geo.blocks_of (geometry_of old) → entries_of new c ≡ entries_of old c
  pub sectors : array_of new ≡ array_of old
  pub keeps : KeepsBlocks old new

-- a block's live pages are copied behind another block's, in their order: none is left
pub record Clears (old new : Store) (victim spare : ℕ) : Type 0 where
  pub copied : entries_of new spare ≡ entries_of old spare ++ live_entries (entries_of old victim)
  pub dead : live_count (entries_of new victim) ≡ 0
  pub others : (c : ℕ) → c ≢ spare → c ≢ victim → c < geo.blocks_of (geometry_of old) → entries_of new c ≡ entries_of old c
  pub sectors : array_of new ≡ array_of old
  pub keeps : KeepsBlocks old new

-- a block is erased: it has no entry and one more erase, the last erase of its endurance retires it, and nothing else has changed
pub record ErasesBlock (old new : Store) (b : ℕ) : Type 0 where
  pub emptied : entries_of new b ≡ []
  pub counted : erases_of new b ≡ erases_of old b + 1
  pub retired : retired_of new b ≡ (erases_of old b + 1 == geo.endurance_of (geometry_of old))
  pub entries : (c : ℕ) → c ≢ b → c < geo.blocks_of (geometry_of old) → entries_of new c ≡ entries_of old c
  pub erases : (c : ℕ) → c ≢ b → c < geo.blocks_of (geometry_of old) → erases_of new c ≡ erases_of old c
  pub others : (c : ℕ) → c ≢ b → c < geo.blocks_of (geometry_of old) → retired_of new c ≡ retired_of old c
  pub sectors : array_of new ≡ array_of old
  pub geometry : geometry_of new ≡ geometry_of old

-- a new store: every sector is empty, and no block was programmed or erased
pub record IsNew (store : Store) (g : Geometry) : Type 0 where
  pub geometry : geometry_of store ≡ g
  pub sectors : array_of store ≡ replicate (geo.sectors_of g) None
  pub entries : (b : ℕ) → b < geo.blocks_of g → entries_of store b ≡ []
  pub erases : (b : ℕ) → b < geo.blocks_of g → erases_of store b ≡ 0
  pub retired : (b : ℕ) → b < geo.blocks_of g → retired_of store b ≡ false
