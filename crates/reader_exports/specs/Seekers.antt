-- What a call on a reader returns, and what it leaves: by what the handle has.
use Rattle.std.specs.Prelude.{◌≡◌, ◌≢◌, ◌<◌, ◌==◌, ◌+◌, ℕ, Bool, List, Option, None, Some, is_none, nat_le, nat_lt, nat_eq, ◌&&◌, if◌then◌else◌}
use Rattle.std.specs.Arc.{arc_value}
use Rattle.geometry.specs.Sectors.{Sector}
use Rattle.shared_nand.specs.Search.{is_sought}
use Rattle.shared_nand.specs.Shown.{sector_shown}
use Rattle.version_map.specs.History.{version_after, Continues}
use Rattle.version_map.specs.Map.{map_sectors, history_seen, looks_made}
use Rattle.version_map.specs.declared.calls.Place.{Place}
use Rattle.reader_exports.specs.declared.codes.TheConstants.{DONE, WRITTEN, CLOSED, NO_SECTOR, WRONG_KIND, OUT_OF_ORDER, UNREADABLE, UNSETTLED, READ_PAGE}
use Rattle.reader_exports.specs.declared.seeker.Seeker.{Seeker as MapSeeker}
use Rattle.reader_exports.specs.declared.seat.Seat.{Seat}
use Rattle.reader_exports.specs.declared.seat.Seat.TheVariants.{Keeper, Seeker}

-- the code of a call on a reader, which a map refuses
abbrev pub code_of_seeker : Option Seat → (MapSeeker → ℕ) → ℕ
code_of_seeker None code = CLOSED
code_of_seeker (Some (Keeper k)) code = WRONG_KIND
code_of_seeker (Some (Seeker s)) code = code s

-- what a call on a reader leaves of a handle: a reader of the same map, and this holds of before and after; any other handle is unchanged
abbrev pub SeekerCalled : Option Seat → Option Seat → (MapSeeker → MapSeeker → Type 0) → Type 0
SeekerCalled (Some (Seeker s)) (Some (Seeker t)) says = (t.map ≡ s.map) × says s t
SeekerCalled (Some (Seeker s)) None says = ⊥
SeekerCalled (Some (Seeker s)) (Some (Keeper k)) says = ⊥
SeekerCalled before after says = after ≡ before

-- the code of a look: the sector is empty, lost or unsettled, or a page has to be read
abbrev pub step_code : ℕ → ℕ
step_code code = if nat_eq code READ_PAGE then READ_PAGE else if nat_eq code UNREADABLE then UNREADABLE else if nat_eq code UNSETTLED then UNSETTLED else DONE

-- the code of a search that begins
abbrev pub search_code : ℕ → ℕ → MapSeeker → ℕ
search_code s code r = if nat_le (map_sectors (arc_value r.map)) s then NO_SECTOR else step_code code

-- whether what was read is the version that was found: a version with this number, or none. A stamp's number is one less than the version's in the history
abbrev pub fits_number : Bool → ℕ → Option Place → Bool
fits_number has number found = has && (nat_lt number 18446744073709551615 && is_sought (number + 1) found)

-- the code of an answer to a search that has found this
abbrev pub answer_code : Bool → ℕ → ℕ → Option Place → ℕ
answer_code has number code found = if is_none found then OUT_OF_ORDER else if fits_number has number found then WRITTEN else step_code code

-- what a look for this sector leaves, with so many looks left before it, by its code: what the reader has seen, the sector, the version, the looks
abbrev pub LooksOnce : ℕ → ℕ → ℕ → MapSeeker → MapSeeker → Type 0
LooksOnce code s looks before after =
    Continues (history_seen after.reader) (history_seen before.reader) × (after.search.sector ≡ s)
    × (code ≡ DONE → version_after (history_seen after.reader) s ≡ 0)
    × (code ≡ UNREADABLE → 0 < version_after (history_seen after.reader) s)
    × (code ≡ READ_PAGE → looks ≡ after.search.looks + 1)
    × (code ≢ READ_PAGE → after.search.found ≡ None)
    × (code ≡ UNSETTLED → (looks ≡ 0) × (looks_made after.reader ≡ looks_made before.reader))
    × (code ≢ UNSETTLED → looks_made after.reader + after.search.looks ≡ looks_made before.reader + looks)

-- the page that a search has found
abbrev pub page_found : Option Place → Option ℕ
page_found None = None
page_found (Some place) = Some place.page

-- the page that is reported is the one that the search has found; without one the report is unchanged
abbrev pub ReportsPage : ℕ → ℕ → MapSeeker → ℕ → Type 0
ReportsPage code was after page = (code ≡ READ_PAGE → page_found after.search.found ≡ Some page) × (code ≢ READ_PAGE → page ≡ was)

-- what a search that ends with this code answers, whatever bytes the versions have: those of the version that was read, or that the sector has none
abbrev pub AnswersValue : ℕ → ℕ → MapSeeker → Type 0
AnswersValue code number after = (bytes : ℕ → List ℕ)
    → (code ≡ WRITTEN → sector_shown bytes (history_seen after.reader) after.search.sector ≡ Some (bytes (number + 1)))
    × (code ≡ DONE → sector_shown bytes (history_seen after.reader) after.search.sector ≡ None)
