-- Numbers in groups of 256, of which those with no number but 0 are kept at one place.
use Rattle.std.specs.Prelude.{◌≡◌, ◌≢◌, ℕ, ◌+◌, ◌*◌, ◌<◌, ◌/◌, ◌%◌, ◌==◌, List, [], ◌∷◌, length, if◌then◌else◌, slice_index_or}

-- the number at an index: in its group, where that is kept
abbrev pub number_at : List ℕ → List ℕ → ℕ → ℕ
number_at places kept i = slice_index_or kept (slice_index_or places (i / 256) 0 * 256 + i % 256) 0

-- one for a group that is kept at the first place
abbrev pub share : ℕ → ℕ
share place = if place == 0 then 1 else 0

-- how many groups are kept there
unfoldable pub shared_in : List ℕ → ℕ
shared_in [] = 0
shared_in (place ∷ places) = share place + shared_in places

-- the groups are kept at so many places. The first has nothing but zeros, and no two groups share another one
pub record AreGrouped (places kept : List ℕ) (used : ℕ) : Type 0 where
  pub size : length kept ≡ used * 256
  pub first : 0 < used
  pub zeros : (r : ℕ) → r < 256 → slice_index_or kept r 0 ≡ 0
  pub within : (g : ℕ) → g < length places → slice_index_or places g 0 < used
  pub apart : (g h : ℕ) → g < length places → h < length places → slice_index_or places g 0 ≡ slice_index_or places h 0 → slice_index_or places g 0 ≢ 0 → g ≡ h
  pub counted : used + shared_in places ≡ length places + 1
