-- What a search says of its sector.
use Rattle.std.specs.Prelude.{◌≡◌, ◌<◌, ℕ, List, Bool, false, Option, None, Some, nat_eq}
use Rattle.version_map.specs.History.{version_after}
use Rattle.version_map.specs.declared.calls.Place.{Place}
use Rattle.shared_nand.specs.declared.search.Step.{Step}
use Rattle.shared_nand.specs.declared.search.Step.TheVariants.{Read, Empty, Lost, Unsettled}

-- this holds of the page that a step has read, if it has one read
abbrev pub IfRead : Step → (Place → Type 0) → Type 0
IfRead (Read place) says = says place
IfRead Empty says = Unit {0}
IfRead Lost says = Unit {0}
IfRead Unsettled says = Unit {0}

-- whether a version with this number is the one that was found
abbrev pub is_sought : ℕ → Option Place → Bool
is_sought number None = false
is_sought number (Some place) = nat_eq number place.number

-- the place has the number of the sector's version after this history
abbrev pub NamesVersion : Place → List (ℕ × ℕ) → ℕ → Type 0
NamesVersion place history s = (0 < place.number) × (version_after history s ≡ place.number)
