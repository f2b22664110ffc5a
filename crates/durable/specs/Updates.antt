-- The array of sectors and the updates that change it. It knows no page, block or number.
use Rattle.std.specs.Prelude.{◌≡◌, ◌⊎◌, ◌<◌, ◌≤◌, ◌+◌, ℕ, Bool, true, false, List, [], ◌∷◌, None, if◌then◌else◌, nat_lt}
use Rattle.geometry.specs.Sectors.{Sector}
use Rattle.durable.specs.declared.extent.Extent.{Extent}

-- the extent has this sector
abbrev pub Covers : Extent → ℕ → Type 0
Covers extent k = (extent.first ≤ k) × (k < extent.first + extent.count)

-- whether it has
abbrev pub is_covered : Extent → ℕ → Bool
is_covered extent k = if nat_lt k extent.first then false else nat_lt k (extent.first + extent.count)

-- the extent has sectors, and all of them are among the first so many
abbrev pub LiesWithin : ℕ → Extent → Type 0
LiesWithin sectors extent = (0 < extent.count) × (extent.first + extent.count ≤ sectors)

-- the extent of one sector
abbrev pub sole : ℕ → Extent
sole sector = record { first = sector; count = 1 }

-- an update: an extent, and what each of its sectors holds from then on, which for a trim is nothing
pub record Update : Type 0 where
  pub extent : Extent
  pub value : Sector

-- the array with all sectors of an extent changed
abbrev pub changed : (ℕ → Sector) → Extent → Sector → ℕ → Sector
changed array extent value k = if is_covered extent k then value else array k

-- the array after these updates, the newest first; before the first one all sectors are empty
abbrev pub array_after : List Update → ℕ → Sector
array_after [] k = None
array_after (update ∷ earlier) k = changed (array_after earlier) update.extent update.value k

-- the first list is the second with some updates left out, in the same order
abbrev pub IsSubsequence : List Update → List Update → Type 0
IsSubsequence some [] = some ≡ []
IsSubsequence some (update ∷ all) = IsSubsequence some all ⊎ ((rest : List Update) × (some ≡ update ∷ rest) × IsSubsequence rest all)

-- a call that was acknowledged has made its update, and one that was cut short has made it or not
abbrev pub Makes : Bool → Update → List Update → List Update → Type 0
Makes true update before after = after ≡ update ∷ before
Makes false update before after = (after ≡ before) ⊎ (after ≡ update ∷ before)

-- the updates are those that these calls have made, the newest first. Of each call it is told whether it was acknowledged
abbrev pub AreMade : List (Update × Bool) → List Update → Type 0
AreMade [] updates = updates ≡ []
AreMade (call ∷ calls) updates = (before : List Update) × AreMade calls before × Makes call.1 call.0 before updates
