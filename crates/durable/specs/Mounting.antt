-- What a mount has found, up to a page.
use Rattle.std.specs.Prelude.{◌≡◌, ◌≢◌, ◌⊎◌, ◌<◌, ◌≤◌, ◌+◌, ◌^◌, ℕ, Bool, true, false, if◌then◌else◌, nat_lt, List, length, Option, None, Some}
use Rattle.std.specs.Prelude.{slice_index_or}
use Rattle.geometry.specs.Sectors.{Sector}
use Rattle.geometry.specs.declared.page_addr.PageAddr.{PageAddr}
use Rattle.durable.specs.declared.extent.Extent.{Extent}
use Rattle.durable.specs.declared.found.Stamp.{Stamp}
use Rattle.durable.specs.declared.found.Candidate.{Candidate}
use Rattle.durable.specs.Flash.{Version, Flash, HasVersion, is_trim}
use Rattle.durable.specs.Marks.{is_valued}
use Rattle.durable.specs.Updates.{LiesWithin}
use Rattle.durable.specs.declared.mount.Mount.{Mount}

-- this page, if it lies on a device with so many blocks
abbrev pub page_on : ℕ → PageAddr → Option PageAddr
page_on blocks at = if nat_lt at.block blocks then Some at else None

-- the page whose stamp has to be noted next
abbrev pub next_in : Mount → Option PageAddr
next_in mount = page_on mount.read_blocks (record { block = mount.block; page = mount.page })

-- the page after that one: the next in its block, or the first of the next block
abbrev pub after_in : Mount → Option PageAddr
after_in mount =
    if nat_lt (mount.page + 1) mount.pages then page_on mount.read_blocks (record { block = mount.block; page = mount.page + 1 })
    else page_on mount.read_blocks (record { block = mount.block + 1; page = 0 })

-- the page comes before page p of block b
abbrev pub IsRead : ℕ → ℕ → ℕ → ℕ → ℕ → Type 0
IsRead pages b p c q = (q < pages) × ((c < b) ⊎ ((c ≡ b) × (q < p)))

-- the page has a version with this stamp, which tells whether it is a trim; or none
abbrev pub IsStampOf : Flash → ℕ → ℕ → Option Stamp → Type 0
IsStampOf f b p None = (e : Extent) (m : ℕ) (v : Sector) → f b p ≢ Version e m v
IsStampOf f b p (Some stamp) = (v : Sector) × (f b p ≡ Version stamp.extent stamp.number v) × (stamp.is_trim ≡ is_trim v)

-- the page that was found has the greatest number of the sector among those that were read
abbrev pub IsBest : Flash → ℕ → ℕ → ℕ → ℕ → Option Candidate → Type 0
IsBest f pages b p s None = (c q m : ℕ) (v : Sector) → IsRead pages b p c q → ¬ HasVersion f c q s m v
IsBest f pages b p s (Some x) =
    ((v : Sector) × HasVersion f x.at.block x.at.page s x.number v)
    × ((c q m : ℕ) (v : Sector) → IsRead pages b p c q → HasVersion f c q s m v → m ≤ x.number)
    × ((t : PageAddr) → x.twin ≡ Some t → (v : Sector) × HasVersion f t.block t.page s x.number v)

-- the twin is in another block, and without a twin no other block has the version; no later block was read
abbrev pub IsLone : Flash → ℕ → ℕ → ℕ → ℕ → Option Candidate → Type 0
IsLone f pages b p s None = Unit {0}
IsLone f pages b p s (Some x) =
    (x.twin ≡ None → (c q : ℕ) (v : Sector) → IsRead pages b p c q → HasVersion f c q s x.number v → c ≡ x.at.block)
    × ((t : PageAddr) → x.twin ≡ Some t → t.block ≢ x.at.block)
    × (x.at.block ≤ b)

-- what was found before page p of block b
pub record FoundBefore (f : Flash) (pages b p : ℕ) (found : List (Option Candidate)) (next : ℕ) : Type 0 where
  pub best : (s : ℕ) → s < length found → IsBest f pages b p s (slice_index_or found s None)
  pub numbers : (c q : ℕ) (e : Extent) (m : ℕ) (v : Sector) → IsRead pages b p c q → f c q ≡ Version e m v → m < next
  pub lone : (s : ℕ) → s < length found → IsLone f pages b p s (slice_index_or found s None)

-- each version before page p of block b is of sectors that the device has, and its number isn't the greatest
abbrev pub AreOfDevice : Flash → ℕ → ℕ → ℕ → ℕ → Type 0
AreOfDevice f pages b p sectors = (c q : ℕ) (e : Extent) (m : ℕ) (v : Sector) → IsRead pages b p c q → f c q ≡ Version e m v
    → LiesWithin sectors e × (m + 1 < 2 ^ 64)

-- whether a page before page p of block b has a value of the sector
abbrev pub TellsValue : Flash → ℕ → ℕ → ℕ → ℕ → Bool → Type 0
TellsValue f pages b p s true = (c q m : ℕ) × (bytes : List ℕ) × IsRead pages b p c q × HasVersion f c q s m (Some bytes)
TellsValue f pages b p s false = (c q m : ℕ) (bytes : List ℕ) → IsRead pages b p c q → ¬ HasVersion f c q s m (Some bytes)

-- the same of each sector
abbrev pub TellsValues : Flash → ℕ → ℕ → ℕ → ℕ → List ℕ → Type 0
TellsValues f pages b p sectors valued = (s : ℕ) → s < sectors → TellsValue f pages b p s (is_valued valued s)
