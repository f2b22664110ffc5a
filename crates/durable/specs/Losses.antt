-- Pages that have become unreadable: what a mount can tell of them. Pages are programmed in order, so a block in which a power cut fell while it was
-- programmed has no page without a version before one with a version. A power cut in its erase may leave one, but then the block keeps nothing.
use Rattle.std.specs.Prelude.{◌≡◌, ◌≢◌, ◌<◌, ◌≤◌, ◌+◌, ◌-◌, ◌==◌, ◌||◌, ◌⊎◌, ℕ, zero, suc, Bool, false, nat_lt, if◌then◌else◌, List, [], ◌∷◌, Option, None}
use Rattle.std.specs.Prelude.{Some, slice_index_or, slice_set}
use Rattle.geometry.specs.Sectors.{Sector}
use Rattle.geometry.specs.declared.page_addr.PageAddr.{PageAddr}
use Rattle.durable.specs.Flash.{PageContents, Erased, Torn, Version, Flash, HasVersion, HoldsNewest, HoldsNeeded}
use Rattle.durable.specs.declared.extent.Extent.{Extent}
use Rattle.durable.specs.declared.found.Candidate.{Candidate}
use Rattle.durable.specs.declared.found.Stamp.{Stamp}

-- one if the page has a version
abbrev pub version_count : PageContents → ℕ
version_count (Version e n v) = 1
version_count Erased = 0
version_count Torn = 0

-- how many pages before this one have a version
abbrev pub versions_before : Flash → ℕ → ℕ → ℕ
versions_before f b zero = 0
versions_before f b (suc p) = versions_before f b p + version_count (f b p)

-- the gaps up to a page and with it: before a version they are all pages without one
abbrev pub gaps_with : PageContents → ℕ → ℕ → ℕ → ℕ
gaps_with (Version e n v) p versions gaps = p - versions
gaps_with Erased p versions gaps = gaps
gaps_with Torn p versions gaps = gaps

-- how many gaps are before this page: pages without a version, before one with a version
abbrev pub gaps_before : Flash → ℕ → ℕ → ℕ
gaps_before f b zero = 0
gaps_before f b (suc p) = gaps_with (f b p) p (versions_before f b p) (gaps_before f b p)

-- the block has no gap: each page before a version has one
abbrev pub IsGapless : Flash → ℕ → Type 0
IsGapless f b = (p q : ℕ) (e : Extent) (m : ℕ) (v : Sector) → p < q → f b q ≡ Version e m v → version_count (f b p) ≡ 1

-- the newest version of each sector, if it is needed, is in a block without a gap
abbrev pub HasNoLoss : Flash → ℕ → Type 0
HasNoLoss f sectors = (s b p : ℕ) (v : Sector) → s < sectors → HoldsNeeded f s v b p
    → (d : ℕ) × (q : ℕ) × (w : Sector) × IsGapless f d × HoldsNewest f s w d q

-- the gaps of each block, by what a mount has counted
abbrev pub gaps_in : List ℕ → ℕ → ℕ
gaps_in gaps b = slice_index_or gaps b 0

-- whether a gap was counted in the block
abbrev pub has_gap : List ℕ → ℕ → Bool
has_gap gaps b = nat_lt 0 (gaps_in gaps b)

-- the counts of gaps with a page more of this block, after so many versions in it
abbrev pub gaps_noted : List ℕ → ℕ → ℕ → ℕ → Option Stamp → List ℕ
gaps_noted gaps b p versions None = gaps
gaps_noted gaps b p versions (Some stamp) = slice_set gaps b (p - versions)

-- how many versions the block has then
abbrev pub versions_noted : ℕ → Option Stamp → ℕ
versions_noted versions None = versions
versions_noted versions (Some stamp) = versions + 1

-- the page that was found is in the block
abbrev pub is_at : ℕ → Option Candidate → Bool
is_at b None = false
is_at b (Some x) = x.at.block == b

-- whether the block has a page that was found
abbrev pub has_found : ℕ → List (Option Candidate) → Bool
has_found b [] = false
has_found b (x ∷ found) = is_at b x || has_found b found

-- how many gaps are in blocks that have a page that was found, of the first ones
abbrev pub losses_in : List (Option Candidate) → List ℕ → ℕ → ℕ
losses_in found gaps zero = 0
losses_in found gaps (suc b) = losses_in found gaps b + (if has_found b found then gaps_in gaps b else 0)

-- the gaps that were counted before page p of block b
pub record CountsGaps (f : Flash) (pages b p : ℕ) (gaps : List ℕ) (versions : ℕ) : Type 0 where
  pub here : versions ≡ versions_before f b p
  pub now : gaps_in gaps b ≡ gaps_before f b p
  pub read : (c : ℕ) → c < b → gaps_in gaps c ≡ gaps_before f c pages
  pub rest : (c : ℕ) → b < c → gaps_in gaps c ≡ 0

-- the page that was found is in a block before this one that has no gap
abbrev pub IsInWhole : List ℕ → ℕ → Candidate → Type 0
IsInWhole gaps b x = (x.at.block < b) × (gaps_in gaps x.at.block ≡ 0)

-- the block was read and has no gap, or it is this one
abbrev pub IsWholeOrHere : List ℕ → ℕ → ℕ → Type 0
IsWholeOrHere gaps b c = (c ≡ b) ⊎ ((c < b) × (gaps_in gaps c ≡ 0))

-- where a block that was read has no gap and has the newest version, the page that was found is in such a block; and where another such block has it,
-- so is its twin
abbrev pub IsPreferred : Flash → ℕ → ℕ → ℕ → List ℕ → ℕ → Option Candidate → Type 0
IsPreferred f pages b p gaps s None = Unit {0}
IsPreferred f pages b p gaps s (Some x) =
    ((c q : ℕ) (v : Sector) → c < b → q < pages → HasVersion f c q s x.number v → gaps_in gaps c ≡ 0 → IsInWhole gaps b x)
    × ((q : ℕ) (v : Sector) → q < p → HasVersion f b q s x.number v → IsWholeOrHere gaps b x.at.block)
    × ((c q : ℕ) (v : Sector) → c < b → q < pages → HasVersion f c q s x.number v → gaps_in gaps c ≡ 0 → c ≢ x.at.block
    → (t : PageAddr) × (x.twin ≡ Some t) × (t.block < b) × (gaps_in gaps t.block ≡ 0))
    × ((q : ℕ) (v : Sector) → q < p → HasVersion f b q s x.number v → x.at.block ≢ b → (t : PageAddr) × (x.twin ≡ Some t) × IsWholeOrHere gaps b t.block)
    × ((t : PageAddr) → x.twin ≡ Some t → t.block ≤ b)
