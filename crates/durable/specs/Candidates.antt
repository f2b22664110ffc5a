-- Which pages are found as their stamps are read, and which block can be freed.
use Rattle.std.specs.Prelude.{◌≡◌, ◌≢◌, ◌⊎◌, ◌<◌, ◌+◌, ◌==◌, ℕ, Bool, true, false, max, List}
use Rattle.std.specs.Prelude.{[], ◌∷◌, length, Option, None, Some, if◌then◌else◌, nat_lt, slice_index_or}
use Rattle.geometry.specs.declared.page_addr.PageAddr.{PageAddr}
use Rattle.packed_map.specs.Entries.{IsPackable}
use Rattle.durable.specs.declared.found.Candidate.{Candidate}
use Rattle.durable.specs.declared.found.Stamp.{Stamp}
use Rattle.durable.specs.Losses.{has_gap}
use Rattle.durable.specs.Marks.{is_valued}
use Rattle.durable.specs.Updates.{Covers}

-- the twin of a page that was found: this one, unless there is one in a block without a gap
abbrev pub twin_with : List ℕ → Option PageAddr → PageAddr → PageAddr
twin_with gaps None at = at
twin_with gaps (Some twin) at = if has_gap gaps twin.block then at else twin

-- a page with the same number in another block: it is the twin, or it takes the place of a page whose block has a gap
abbrev pub with_twin : List ℕ → Candidate → PageAddr → Candidate
with_twin gaps old at =
    if at.block == old.at.block then old
    else if has_gap gaps old.at.block then record { at = at; number = old.number; twin = Some old.at }
    else record { at = old.at; number = old.number; twin = Some (twin_with gaps old.twin at) }

-- the page with the greater number; one with the same number is its twin
abbrev pub newer_of : List ℕ → Option Candidate → PageAddr → ℕ → Option Candidate
newer_of gaps None at number = Some (record { at = at; number = number; twin = None })
newer_of gaps (Some old) at number =
    if nat_lt number old.number then Some old
    else if nat_lt old.number number then Some (record { at = at; number = number; twin = None })
    else Some (with_twin gaps old at)

-- the newest version of each sector that was found
pub record Candidates : Type 0 where
  pub items : List (Option Candidate)

-- what was found of a sector, by its page, number and twin
abbrev pub candidate_of : Option PageAddr → ℕ → Option PageAddr → Option Candidate
candidate_of None number twin = None
candidate_of (Some at) number twin = Some (record { at = at; number = number; twin = twin })

-- the same of each sector
unfoldable pub candidates_of : List (Option PageAddr) → List ℕ → List (Option PageAddr) → List (Option Candidate)
candidates_of [] numbers twins = []
candidates_of (page ∷ pages) [] twins = []
candidates_of (page ∷ pages) (number ∷ numbers) [] = []
candidates_of (page ∷ pages) (number ∷ numbers) (twin ∷ twins) = candidate_of page number twin ∷ candidates_of pages numbers twins

-- the pages of a version can be packed
abbrev pub IsPackableVersion : Option Candidate → Type 0
IsPackableVersion None = Unit {0}
IsPackableVersion (Some x) = IsPackable (Some x.at) × IsPackable x.twin

-- the page of a sector, or its twin, if the page is in this block
abbrev pub outside_of : ℕ → Option PageAddr → Option PageAddr → Option PageAddr
outside_of avoided None twin = None
outside_of avoided (Some at) None = Some at
outside_of avoided (Some at) (Some twin) = if at.block == avoided then Some twin else Some at

-- the entry names the page that was found, or its twin
abbrev pub IsEntryOf : Option Candidate → Option PageAddr → Type 0
IsEntryOf None entry = entry ≡ None
IsEntryOf (Some x) entry = (entry ≡ Some x.at) ⊎ ((t : PageAddr) × (x.twin ≡ Some t) × (entry ≡ Some t))

-- what was found, with one page more: the newer one of each sector that it is of
abbrev pub IsFoundWith : List ℕ → List (Option Candidate) → List (Option Candidate) → PageAddr → Option Stamp → Type 0
IsFoundWith gaps old new at None = new ≡ old
IsFoundWith gaps old new at (Some stamp) =
    (length new ≡ length old)
    × ((s : ℕ) → s < length old → Covers stamp.extent s
    → slice_index_or new s None ≡ newer_of gaps (slice_index_or old s None) at stamp.number)
    × ((s : ℕ) → s < length old → ¬ Covers stamp.extent s → slice_index_or new s None ≡ slice_index_or old s None)

-- a number above each that was read
abbrev pub number_above : ℕ → Option Stamp → ℕ
number_above next None = next
number_above next (Some stamp) = max next (stamp.number + 1)

-- the version has a page in another block too, without a gap by these counts
abbrev pub HasTwin : List ℕ → Candidate → ℕ → Type 0
HasTwin gaps x b = (t : PageAddr) × (x.twin ≡ Some t) × (t.block ≢ b) × (has_gap gaps t.block ≡ false)

-- each version that was found in the block has such a page in another one
abbrev pub IsFreeable : List ℕ → List (Option Candidate) → ℕ → Type 0
IsFreeable gaps found b = (s : ℕ) (x : Candidate) → s < length found → slice_index_or found s None ≡ Some x → x.at.block ≡ b → HasTwin gaps x b

-- the page of a sector that has a value
abbrev pub valued_page : Bool → Option PageAddr → Option PageAddr
valued_page true page = page
valued_page false page = None

-- what is kept of what was found of a sector: nothing, if no page has a value of it
abbrev pub needed_of : Bool → Option Candidate → Option Candidate
needed_of true found = found
needed_of false found = None

-- the same of each sector
abbrev pub AreNeeded : List ℕ → List (Option Candidate) → List (Option Candidate) → Type 0
AreNeeded valued found kept =
    (length kept ≡ length found)
    × ((s : ℕ) → s < length found → slice_index_or kept s None ≡ needed_of (is_valued valued s) (slice_index_or found s None))
