-- What a call on a map returns, and what it leaves: by what the handle has.
use Rattle.std.specs.Prelude.{◌≡◌, ◌==◌, ◌+◌, ℕ, Bool, List, [], ◌∷◌, Option, None, Some, nat_le, nat_eq, if◌then◌else◌}
use Rattle.std.specs.Arc.{arc_value}
use Rattle.version_map.specs.History.{version_after, cleared_after}
use Rattle.version_map.specs.Map.{map_sectors, map_pages, numbers_below, history_seen, history_published}
use Rattle.version_map.specs.declared.map.VersionMap.{VersionMap}
use Rattle.reader_exports.specs.declared.codes.TheConstants.{DONE, WRITTEN, CLOSED, NO_SECTOR, NO_MEMORY, ALREADY_OPEN, WRONG_KIND, NO_SUCH_BLOCK, NO_NUMBER}
use Rattle.reader_exports.specs.declared.codes.TheConstants.{BAD_SECTORS, BAD_PAGES}
use Rattle.reader_exports.specs.declared.keeper.Keeper.{Keeper as MapKeeper}
use Rattle.reader_exports.specs.declared.seeker.Seeker.{Seeker as MapSeeker}
use Rattle.reader_exports.specs.declared.seat.Seat.{Seat}
use Rattle.reader_exports.specs.declared.seat.Seat.TheVariants.{Keeper, Seeker}

-- the map that may be changed
abbrev pub map_kept : MapKeeper → VersionMap
map_kept k = arc_value k.map

-- the code of a call on a map, which a reader refuses
abbrev pub code_of_keeper : Option Seat → (MapKeeper → ℕ) → ℕ
code_of_keeper None code = CLOSED
code_of_keeper (Some (Keeper k)) code = code k
code_of_keeper (Some (Seeker s)) code = WRONG_KIND

-- there is a map, and this holds of it
abbrev pub HasKeeper : Option Seat → (MapKeeper → Type 0) → Type 0
HasKeeper None says = ⊥
HasKeeper (Some (Keeper k)) says = says k
HasKeeper (Some (Seeker s)) says = ⊥

-- there is a reader, and this holds of it
abbrev pub HasSeeker : Option Seat → (MapSeeker → Type 0) → Type 0
HasSeeker None says = ⊥
HasSeeker (Some (Keeper k)) says = ⊥
HasSeeker (Some (Seeker s)) says = says s

-- what a call on a map leaves of a handle: the same map, and this holds of before and after; any other handle is unchanged
abbrev pub KeeperCalled : Option Seat → Option Seat → (MapKeeper → MapKeeper → Type 0) → Type 0
KeeperCalled (Some (Keeper k)) (Some (Keeper j)) says = (j.map ≡ k.map) × says k j
KeeperCalled (Some (Keeper k)) None says = ⊥
KeeperCalled (Some (Keeper k)) (Some (Seeker s)) says = ⊥
KeeperCalled before after says = after ≡ before

-- the code of an open, by whether the handle is closed, then by the numbers, and then by whether there is memory, which no state says
abbrev pub map_code : Option Seat → ℕ → ℕ → Bool → ℕ
map_code None sectors pages no_memory = if sectors == 0 then BAD_SECTORS else if pages == 0 then BAD_PAGES else if no_memory then NO_MEMORY else DONE
map_code (Some x) sectors pages no_memory = ALREADY_OPEN

-- a new map: of so many sectors, all empty, and so many pages that a word can name
abbrev pub IsNewMap : ℕ → ℕ → MapKeeper → Type 0
IsNewMap sectors pages k = (map_sectors (map_kept k) ≡ sectors) × (map_pages (map_kept k) ≡ pages) × (history_published k.publisher ≡ [])

-- the code of a call that takes memory
abbrev pub memory_code : ℕ → ℕ
memory_code code = if nat_eq code NO_MEMORY then NO_MEMORY else DONE

-- the code of a call that makes a reader in a handle with this seat
abbrev pub deal_code : Option Seat → ℕ → ℕ
deal_code None code = memory_code code
deal_code (Some x) code = ALREADY_OPEN

-- a reader that has seen this history of this map
abbrev pub IsNewReader : VersionMap → List (ℕ × ℕ) → MapSeeker → Type 0
IsNewReader m history s = (arc_value s.map ≡ m) × (history_seen s.reader ≡ history) × (s.search.found ≡ None)

-- the seat is a reader that has seen all that the map's handle had published
abbrev pub IsDealtReader : Option Seat → Option Seat → Type 0
IsDealtReader None reader = ⊥
IsDealtReader (Some (Keeper k)) reader = HasSeeker reader (IsNewReader (map_kept k) (history_published k.publisher))
IsDealtReader (Some (Seeker s)) reader = ⊥

-- the code of a version that becomes a sector's: the sector, then its page, and then its number
abbrev pub publish_code : ℕ → ℕ → ℕ → MapKeeper → ℕ
publish_code s number page k =
    if nat_le (map_sectors (map_kept k)) s then NO_SECTOR
    else if nat_le (map_pages (map_kept k)) page then NO_SUCH_BLOCK
    else if nat_le (numbers_below (map_kept k)) (number + 1) then NO_NUMBER else DONE

-- what has been published after a call that returns this code. A version's number in the history is one more than that of its stamp, since 0 is no version
abbrev pub publishes : ℕ → ℕ → ℕ → MapKeeper → List (ℕ × ℕ)
publishes code s number k = if nat_eq code DONE then (s, number + 1) ∷ history_published k.publisher else history_published k.publisher

-- the code of a trim of so many sectors
abbrev pub clear_code : ℕ → ℕ → MapKeeper → ℕ
clear_code first count k = if nat_le (first + count) (map_sectors (map_kept k)) then DONE else NO_SECTOR

-- what has been published after a trim that returns this code
abbrev pub clears : ℕ → ℕ → ℕ → MapKeeper → List (ℕ × ℕ)
clears code first count k = if nat_eq code DONE then cleared_after (history_published k.publisher) first count else history_published k.publisher

-- the code of a move: whether the version is the sector's
abbrev pub follow_code : ℕ → ℕ → ℕ → MapKeeper → ℕ
follow_code s number page k =
    if nat_le (map_sectors (map_kept k)) s then NO_SECTOR
    else if nat_le (map_pages (map_kept k)) page then NO_SUCH_BLOCK
    else if nat_le (numbers_below (map_kept k)) (number + 1) then NO_NUMBER
    else if nat_eq (version_after (history_published k.publisher) s) (number + 1) then WRITTEN else DONE
