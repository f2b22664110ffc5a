-- What a read beside the owner answers.
use Rattle.std.specs.Prelude.{◌≡◌, ◌<◌, ℕ, List, Option, None, Some}
use Rattle.geometry.specs.Sectors.{Sector}

-- The sector has no version, or the token tells what the page of its version has, which was read
abbrev pub ReadsVersion : {T : Type 0} → (T → ℕ → List ℕ → Type 0) → ℕ → Option T → List ℕ → Type 0
ReadsVersion tells number None out = number ≡ 0
ReadsVersion tells number (Some token) out = (0 < number) × tells token number out

-- nothing is answered of an empty sector, and of another one its value
abbrev pub ReadsValue : {T : Type 0} → Sector → Option T → List ℕ → Type 0
ReadsValue None found out = found ≡ None
ReadsValue (Some bytes) None out = ⊥
ReadsValue (Some bytes) (Some token) out = out ≡ bytes
