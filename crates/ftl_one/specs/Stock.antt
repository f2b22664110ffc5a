-- What the layer has used up, and what a call does to it. There is no map here: the current page of a sector is marked in the page's entry,
-- and is found by search.
use Rattle.std.specs.Prelude.{ℕ, ◌+◌, ◌-◌, ◌==◌, ◌&&◌, Bool, true, false, if◌then◌else◌, List, [], ◌∷◌, ◌++◌, length, map, filter, count_by, replicate}
use Rattle.std.specs.Prelude.{slice_set, slice_index_or, Option, None, Some, option_and_then}
use Rattle.std.specs.List.{list_any, position}
use Rattle.geometry.specs.{declared.geometry.Geometry.Geometry, Geometry.blocks_of, Geometry.pages_of, Geometry.endurance_of, Greedy.greedy_of}
use Rattle.geometry.specs.History.{Call, Write, WriteNew, Trim}
use Rattle.ftl_one.specs.declared.role.Role.{Role, TheVariants.Free, TheVariants.Open, TheVariants.Closed, TheVariants.Spare, TheVariants.Retired}

-- a programmed page: the sector that it was written for, and whether it is that sector's current page
pub record Entry : Type 0 where
  pub sector : ℕ
  pub live : Bool

-- a block: its role, its erase commands so far, and its programmed pages in order
pub record Block : Type 0 where
  pub role : Role
  pub erases : ℕ
  pub entries : List Entry

-- the blocks, and the totals: pages programmed for host writes, pages relocated, and erase commands
pub record Stock : Type 0 where
  pub blocks : List Block
  pub programs : ℕ
  pub copies : ℕ
  pub erases : ℕ

-- a block of a role that was never programmed
abbrev pub unused : Role → Block
unused role = record { role = role; erases = 0; entries = [] }

-- at the start the last block is the spare and the others are free
abbrev pub opening_of : ℕ → Stock
opening_of blocks = record { blocks = replicate (blocks - 1) (unused Free) ++ unused Spare ∷ []; programs = 0; copies = 0; erases = 0 }

-- whether a block of this role is erased and waits to be opened
abbrev pub is_free : Role → Bool
is_free Free = true
is_free _ = false

-- whether it is the one that writes go to
abbrev pub is_open : Role → Bool
is_open Open = true
is_open _ = false

-- whether it is full
abbrev pub is_closed : Role → Bool
is_closed Closed = true
is_closed _ = false

-- whether it is kept for the next collection
abbrev pub is_spare : Role → Bool
is_spare Spare = true
is_spare _ = false

-- whether its last erase has failed
abbrev pub is_retired : Role → Bool
is_retired Retired = true
is_retired _ = false

-- the open block, if there is one
abbrev pub open_of : List Block → Option ℕ
open_of blocks = position (λ block. is_open block.role) blocks

-- the lowest free block, if there is one
abbrev pub free_of : List Block → Option ℕ
free_of blocks = position (λ block. is_free block.role) blocks

-- the spare, if there is one
abbrev pub spare_of : List Block → Option ℕ
spare_of blocks = position (λ block. is_spare block.role) blocks

-- the entries of live pages
abbrev pub live_entries : List Entry → List Entry
live_entries entries = filter (λ entry. entry.live) entries

-- how many live pages a block has
abbrev pub live_of : Block → ℕ
live_of block = count_by (λ entry. entry.live) block.entries

-- the block that a collection takes: the closed one with the fewest live pages
abbrev pub victim_of : List Block → Option ℕ
victim_of blocks = greedy_of (map live_of blocks) (map (λ block. is_closed block.role) blocks)

-- an entry, now dead if it was one of the sector's
abbrev pub forgotten : ℕ → Entry → Entry
forgotten sector entry = if entry.sector == sector then record entry { live = false } else entry

-- a block after its page of the sector is dead
abbrev pub forget : ℕ → Block → Block
forget sector block = record block { entries = map (forgotten sector) block.entries }

-- a block with one more page, a live one of the sector
abbrev pub with_page : ℕ → Block → Block
with_page sector block = record block { entries = block.entries ++ (record { sector = sector; live = true }) ∷ [] }

-- a block, closed if all its pages are programmed
abbrev pub closed_if_full : ℕ → Block → Block
closed_if_full pages block = if length block.entries == pages then record block { role = Closed } else block

-- the blocks with a change to one of them
abbrev pub change_at : List Block → ℕ → (Block → Block) → List Block
change_at blocks b change = slice_set blocks b (change (slice_index_or blocks b (unused Retired)))

-- the spare after it received the victim's live pages in their order; it is the open block then
abbrev pub filled : Block → Block → Block
filled victim spare = record spare { role = Open; entries = spare.entries ++ live_entries victim.entries }

-- a victim after its erase: it is the spare, or retired by the last erase of its endurance
abbrev pub emptied : ℕ → Block → Block
emptied endurance victim = record { role = (if victim.erases + 1 == endurance then Retired else Spare); erases = victim.erases + 1; entries = [] }

-- a collection: the victim's live pages are copied into the spare, and the victim is erased
abbrev pub collected : ℕ → Stock → ℕ → ℕ → Stock
collected endurance stock spare victim =
    let taken = slice_index_or stock.blocks victim (unused Retired) in
    record stock {
      blocks = change_at (change_at stock.blocks spare (filled taken)) victim (emptied endurance);
      copies = stock.copies + live_of taken;
      erases = stock.erases + 1;
    }

-- a collection by the greedy choice, if a block is closed
abbrev pub collect : ℕ → Stock → ℕ → Option ℕ → Option Stock
collect endurance stock spare (Some victim) = Some (collected endurance stock spare victim)
collect endurance stock spare None = None

-- a free block is opened
abbrev pub opened : Stock → ℕ → Stock
opened stock b = record stock { blocks = change_at stock.blocks b (λ block. record block { role = Open }) }

-- a stock with an open block: the one that it has; otherwise the lowest free block is opened; otherwise a block is collected into the
-- spare; none if there is no open block, no free block and no spare
abbrev pub ready_by : ℕ → Stock → Option ℕ → Option ℕ → Option ℕ → Option Stock
ready_by endurance stock (Some b) free spare = Some stock
ready_by endurance stock None (Some b) spare = Some (opened stock b)
ready_by endurance stock None None (Some s) = collect endurance stock s (victim_of stock.blocks)
ready_by endurance stock None None None = None

-- the stock with an open block: the one that there is, or the lowest free block, or the spare after a collection; none if there is none of
-- these
abbrev pub ready : ℕ → Stock → Option Stock
ready endurance stock = ready_by endurance stock (open_of stock.blocks) (free_of stock.blocks) (spare_of stock.blocks)

-- a page of the sector is programmed in the open block, and its old page is dead; a full block is closed at once
abbrev pub write_into : ℕ → ℕ → Stock → Option ℕ → Option Stock
write_into pages sector stock (Some b) =
    Some (record stock {
      blocks = change_at (map (forget sector) stock.blocks) b (λ block. closed_if_full pages (with_page sector block));
      programs = stock.programs + 1;
    })
write_into pages sector stock None = None

-- a page of the sector is programmed in the open block of the stock
abbrev pub write_of : ℕ → ℕ → Stock → Option Stock
write_of pages sector stock = write_into pages sector stock (open_of stock.blocks)

-- whether a page is the current one of a sector: a live one
abbrev pub is_current : ℕ → Entry → Bool
is_current sector entry = entry.live && (entry.sector == sector)

-- whether a sector has a current page, in some block
abbrev pub has_page : ℕ → Stock → Bool
has_page sector stock = list_any (λ block. list_any (is_current sector) block.entries) stock.blocks

-- the stock after a call, by the pages of a block and the endurance; none if a write finds no page. A write of an empty sector leaves it
-- unchanged if the sector is written
abbrev pub next_of : ℕ → ℕ → Stock → Call → Option Stock
next_of pages endurance stock (Write pass sector value) = option_and_then (write_of pages sector) (ready endurance stock)
next_of pages endurance stock (WriteNew pass sector value) =
    if has_page sector stock then Some stock else option_and_then (write_of pages sector) (ready endurance stock)
next_of pages endurance stock (Trim pass sector) = Some (record stock { blocks = map (forget sector) stock.blocks })

-- the stock of a new layer
unfoldable pub opening : Geometry → Stock
opening geo = opening_of (blocks_of geo)

-- the stock after a call; none if a write finds no page and so is refused
unfoldable pub next : Geometry → Stock → Call → Option Stock
next geo stock call = next_of (pages_of geo) (endurance_of geo) stock call
