-- What a collection does, from the stock before a call and the one after it; what a page that is moved costs a die, and the smallest of the blocks' counts.
use Rattle.std.specs.Prelude.{ℕ, ◌==◌, if◌then◌else◌, ◌≡◌, ◌≢◌, ◌<◌, ◌≤◌, ◌⊎◌, List, length, slice_index, ◌+◌, Bool, nat_lt, Option, None, Some, option_map}
use Rattle.geometry.specs.Geometry.{lun_of, endurance_of}
use Rattle.geometry.specs.declared.page_addr.PageAddr.{PageAddr}
use Rattle.die.specs.Die.{copybacks_of, geometry_of, one_more}
use Rattle.die.specs.declared.die.Die.{Die}
use Rattle.std.specs.List.{position, range_with_len}
use Rattle.geometry.specs.declared.geometry.Geometry.{Geometry}
use Rattle.ftl_one.specs.Laws.{block_at}
use Rattle.ftl_one.specs.declared.collection.Collection.{Collection}
use Rattle.ftl_one.specs.Stock.{Stock, free_of, is_retired, live_of, open_of, spare_of, victim_of}

-- how many copybacks there are after a page was moved: one more if both blocks are on one LUN
abbrev pub copybacks_after : Die → PageAddr → PageAddr → ℕ
copybacks_after die from to =
    if lun_of (geometry_of die) from.block == lun_of (geometry_of die) to.block then one_more (copybacks_of die) else copybacks_of die

-- the index isn't the one that is left out, no other such index has a smaller count, and each such index below it has a greater one
pub record IsFewest (counts : List ℕ) (left_out b : ℕ) : Type 0 where
  pub within : b < length counts
  pub apart : b ≢ left_out
  pub least : (k : ℕ) → k < length counts → k ≢ left_out → slice_index counts b ≤ slice_index counts k
  pub lowest : (k : ℕ) → k < b → k ≢ left_out → slice_index counts b < slice_index counts k

-- none of the first counts, as many as given, is less than this one, which is one of them or the largest number of sixteen bits
pub record IsLeast (counts : List ℕ) (many least : ℕ) : Type 0 where
  pub low : (k : ℕ) → k < many → least ≤ slice_index counts k
  pub found : (least ≡ 65535) ⊎ ((k : ℕ) × (k < many) × (slice_index counts k ≡ least))

-- the count is at this index, and at none before; if the index is the length, it is at none
pub record IsFirst (counts : List ℕ) (count place : ℕ) : Type 0 where
  pub within : place ≤ length counts
  pub stands : place < length counts → slice_index counts place ≡ count
  pub before : (k : ℕ) → k < place → slice_index counts k ≢ count

-- whether a block's erases grew from one stock to the next
abbrev pub was_erased : Stock → Stock → ℕ → Bool
was_erased old new b = nat_lt (block_at old b).erases (block_at new b).erases

-- the block whose erases grew from one stock to the next, and the lowest if there are several
abbrev pub erased_between : Stock → Stock → Option ℕ
erased_between old new = position (was_erased old new) (range_with_len 0 (length old.blocks))

-- how many of a victim's live pages are copied into the spare by copyback: all if both blocks are on one LUN, otherwise none
abbrev pub copybacks_into : Geometry → Stock → ℕ → Option ℕ → ℕ
copybacks_into geo stock victim None = 0
copybacks_into geo stock victim (Some spare) = if lun_of geo victim == lun_of geo spare then live_of (block_at stock victim) else 0

-- the collection of a victim, from the stock before it and the one after it
abbrev pub collection_of : Geometry → Stock → Stock → ℕ → Collection
collection_of geo old new victim = record {
  victim = victim;
  copied = live_of (block_at old victim);
  copybacks = copybacks_into geo old victim (spare_of old.blocks);
  erases = (block_at new victim).erases;
  retired = is_retired (block_at new victim).role;
}

-- the collection that a call made, from the stock before it and the one after it: that of the block whose erases grew
unfoldable pub collection_between : Geometry → Stock → Stock → Option Collection
collection_between geo old new = option_map (collection_of geo old new) (erased_between old new)

-- the collection of a victim into a spare, before it is made
abbrev pub collection_into : Geometry → Stock → ℕ → ℕ → Collection
collection_into geo stock spare victim = record {
  victim = victim;
  copied = live_of (block_at stock victim);
  copybacks = copybacks_into geo stock victim (Some spare);
  erases = (block_at stock victim).erases + 1;
  retired = (block_at stock victim).erases + 1 == endurance_of geo;
}

-- the collection that a stock needs before a page can be programmed, by which blocks are open, free and spare
abbrev pub due_by : Geometry → Stock → Option ℕ → Option ℕ → Option ℕ → Option Collection
due_by geo stock (Some b) free spare = None
due_by geo stock None (Some b) spare = None
due_by geo stock None None (Some s) = option_map (collection_into geo stock s) (victim_of stock.blocks)
due_by geo stock None None None = None

-- the collection that the next programmed page needs: none if a block is open or free, and none without a spare
unfoldable pub collection_due : Geometry → Stock → Option Collection
collection_due geo stock = due_by geo stock (open_of stock.blocks) (free_of stock.blocks) (spare_of stock.blocks)
