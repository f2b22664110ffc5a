-- What readers see of the array that a layer holds.
use Rattle.std.specs.Prelude.{◌≡◌, ◌<◌, ◌==◌, ◌+◌, ℕ, zero, suc, List, All, ◌∷◌, Option, None, Some, if◌then◌else◌, nat_lt}
use Rattle.geometry.specs.Sectors.{Sector}
use Rattle.version_map.specs.declared.calls.Place.{Place}
use Rattle.version_map.specs.History.{version_after}

-- the value of the version with this number, where each number has these bytes: 0 has none
abbrev pub value_numbered : (ℕ → List ℕ) → ℕ → Sector
value_numbered bytes zero = None
value_numbered bytes (suc n) = Some (bytes (suc n))

-- what the sector holds after this history
abbrev pub sector_shown : (ℕ → List ℕ) → List (ℕ × ℕ) → ℕ → Sector
sector_shown bytes history s = value_numbered bytes (version_after history s)

-- after this history each of so many sectors holds what it does in this array
abbrev pub ShowsArray : ℕ → (ℕ → List ℕ) → List (ℕ × ℕ) → (ℕ → Sector) → Type 0
ShowsArray sectors bytes history array = (s : ℕ) → s < sectors → sector_shown bytes history s ≡ array s

-- the array with another value of one sector
abbrev pub with_value : (ℕ → Sector) → ℕ → Sector → ℕ → Sector
with_value array s value k = if k == s then value else array k

-- the array with so many sectors in a row empty, from the first one on
abbrev pub with_trimmed : (ℕ → Sector) → ℕ → ℕ → ℕ → Sector
with_trimmed array first count k = if nat_lt k first then array k else if nat_lt k (first + count) then None else array k

-- the history has one change more, by which the sector has this value
abbrev pub HasPublished : (ℕ → List ℕ) → List (ℕ × ℕ) → List (ℕ × ℕ) → ℕ → Sector → Type 0
HasPublished bytes before after s value = (n : ℕ) × (after ≡ (s, n) ∷ before) × (value_numbered bytes n ≡ value)

-- each version in the history has a number below this one: 0 is no version
abbrev pub AreGivenBelow : ℕ → List (ℕ × ℕ) → Type 0
AreGivenBelow next history = All (λ (change : ℕ × ℕ). 0 < change.1 → change.1 < next) history

-- the number of the version that was found, or 0
abbrev pub number_found : Option Place → ℕ
number_found None = 0
number_found (Some place) = place.number

-- the versions with numbers below this one have the same bytes as before
abbrev pub KeepsBytes : ℕ → (ℕ → List ℕ) → (ℕ → List ℕ) → Type 0
KeepsBytes next before after = (n : ℕ) → n < next → after n ≡ before n
