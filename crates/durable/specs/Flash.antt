-- What the pages of a flash hold, and what a mount reads from them.
use Rattle.std.specs.Prelude.{◌≡◌, ◌≢◌, ◌⊎◌, ◌<◌, ℕ, Bool, true, false, List, None, Some}
use Rattle.geometry.specs.Sectors.{Sector}
use Rattle.durable.specs.Updates.{Covers}
use Rattle.durable.specs.declared.extent.Extent.{Extent}

-- what a page holds: it is erased; or torn, so that no read takes it for a version; or it has a version of an extent's sectors, with its number: all of
-- them have this value
pub data PageContents : Type 0 where
  Erased : PageContents
  Torn : PageContents
  Version : (extent : Extent) (number : ℕ) (value : Sector) → PageContents

-- whether a version is a trim
abbrev pub is_trim : Sector → Bool
is_trim None = true
is_trim (Some bytes) = false

-- the contents of each block's pages
abbrev pub Flash : Type 0
Flash = ℕ → ℕ → PageContents

-- this is a version of the sector: one of an extent that has it
abbrev pub IsVersionOf : PageContents → ℕ → ℕ → Sector → Type 0
IsVersionOf contents s m v = (extent : Extent) × (contents ≡ Version extent m v) × Covers extent s

-- the page has a version of the sector, with this number and value
abbrev pub HasVersion : Flash → ℕ → ℕ → ℕ → ℕ → Sector → Type 0
HasVersion f b p s m v = IsVersionOf (f b p) s m v

-- each page is erased
abbrev pub IsErased : Flash → Type 0
IsErased f = (b p : ℕ) → f b p ≡ Erased

-- no page has a version of the sector with a greater number, and those with this number have this value
abbrev pub IsNewest : Flash → ℕ → ℕ → Sector → Type 0
IsNewest f s n value = (b p m : ℕ) (v : Sector) → HasVersion f b p s m v → (m < n) ⊎ ((m ≡ n) × (v ≡ value))

-- the page has the newest version of the sector
pub record HoldsNewest (f : Flash) (s : ℕ) (value : Sector) (b p : ℕ) : Type 0 where
  pub number : ℕ
  pub held : HasVersion f b p s number value
  pub newest : IsNewest f s number value

-- no page has a value of the sector
abbrev pub HoldsNoValue : Flash → ℕ → Type 0
HoldsNoValue f s = (b p m : ℕ) (bytes : List ℕ) → ¬ HasVersion f b p s m (Some bytes)

-- some page has a value of the sector
abbrev pub HasValue : Flash → ℕ → Type 0
HasValue f s = (b p m : ℕ) × (bytes : List ℕ) × HasVersion f b p s m (Some bytes)

-- the page has the newest version of a sector that some page has a value of. It has to be kept: without it that value would be read
pub record HoldsNeeded (f : Flash) (s : ℕ) (value : Sector) (b p : ℕ) : Type 0 where
  pub newest : HoldsNewest f s value b p
  pub valued : HasValue f s

-- what a mount reads of a sector: its newest version, or nothing where no page has a value of it
abbrev pub RecoversSector : Flash → ℕ → Sector → Type 0
RecoversSector f s value = ((b : ℕ) × (p : ℕ) × HoldsNewest f s value b p) ⊎ ((value ≡ None) × HoldsNoValue f s)

-- what a mount reads of all sectors
abbrev pub Recovers : Flash → ℕ → (ℕ → Sector) → Type 0
Recovers f sectors array = (s : ℕ) → s < sectors → RecoversSector f s (array s)

-- the page holds this now, and no other page has changed
pub record SetsPage (f t : Flash) (b p : ℕ) (contents : PageContents) : Type 0 where
  pub put : t b p ≡ contents
  pub others : (c q : ℕ) → ((c ≢ b) ⊎ (q ≢ p)) → t c q ≡ f c q

-- the block may have lost versions, and has no new ones; no other block has changed
pub record LosesPages (f t : Flash) (b : ℕ) : Type 0 where
  pub within : (c p : ℕ) (e : Extent) (m : ℕ) (v : Sector) → t c p ≡ Version e m v → f c p ≡ Version e m v
  pub outside : (c p : ℕ) → c ≢ b → t c p ≡ f c p
