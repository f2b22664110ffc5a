-- Calls in order, each acknowledged or not, and the array that they leave. It knows no page, block or number.
use Rattle.std.specs.Prelude.{◌≡◌, ◌<◌, ℕ, Bool, false, List, [], ◌∷◌, length, None, Some}
use Rattle.durable.specs.Updates.{LiesWithin, Makes, Update, sole}
use Rattle.nand.specs.declared.history.Change.{Change}
use Rattle.nand.specs.declared.history.Change.TheVariants.{Trim, Write}

-- what a call changes: a write gives the sector its bytes, and a trim empties its extent
abbrev pub update_by : Change → Update
update_by (Write sector bytes) = record { extent = sole sector; value = Some bytes.items }
update_by (Trim extent) = record { extent = extent; value = None }

-- the call is one for a device with so many sectors of so many bytes
abbrev pub IsFor : ℕ → ℕ → Change → Type 0
IsFor sectors page_bytes (Write sector bytes) = (sector < sectors) × (length bytes.items ≡ page_bytes)
IsFor sectors page_bytes (Trim extent) = LiesWithin sectors extent

-- the calls were made in order, each on what the one before it had left; as many as there are outcomes. Each that wasn't acknowledged has failed
abbrev pub Leads : (Update → List Update → Type 0) → List Change → List Bool → List Update → List Update → Type 0
Leads HasFailed calls [] before after = after ≡ before
Leads HasFailed [] (acknowledged ∷ more) before after = ⊥
Leads HasFailed (call ∷ calls) (acknowledged ∷ more) before after = (middle : List Update) × Makes acknowledged (update_by call) before middle
    × (acknowledged ≡ false → HasFailed (update_by call) before) × Leads HasFailed calls more middle after
