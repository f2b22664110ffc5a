-- Runs of a device that is read beside its owner: commands, power cuts, and the reads that return between them.
use Rattle.std.specs.Prelude.{◌≡◌, ◌+◌, ◌==◌, ℕ, zero, suc, false, List, [], ◌∷◌, ◌++◌, None, if◌then◌else◌}
use Rattle.geometry.specs.Sectors.{Sector}
use Rattle.durable.specs.Commands.{updates_with}
use Rattle.durable.specs.Device.{device_of}
use Rattle.durable.specs.Flash.{Flash, Recovers}
use Rattle.durable.specs.Runs.{Event, Completed, Failed, Retired, CutInside, CutBetween, Happens, Runs}
use Rattle.durable.specs.Updates.{Makes, Update, array_after}
use Rattle.durable.specs.declared.memory.Core.{Core}

-- what the sector holds after these changes, each of a sector and what it holds from then on, the newest first; before them it is empty
abbrev pub value_after : List (ℕ × Sector) → ℕ → Sector
value_after [] s = None
value_after (change ∷ earlier) s = if s == change.0 then change.1 else value_after earlier s

-- these changes, and then those of so many sectors in a row, from the first one on
abbrev pub with_changes : ℕ → ℕ → Sector → List (ℕ × Sector) → List (ℕ × Sector)
with_changes first zero value earlier = earlier
with_changes first (suc count) value earlier = (first + count, value) ∷ with_changes first count value earlier

-- what updates are to readers: a change for each sector, the newest first
abbrev pub changes_in : List Update → List (ℕ × Sector)
changes_in [] = []
changes_in (update ∷ earlier) = with_changes update.extent.first update.extent.count update.value (changes_in earlier)

-- the changes begin with the others: they are those, and perhaps newer ones
abbrev pub Extends : List (ℕ × Sector) → List (ℕ × Sector) → Type 0
Extends all first = (newer : List (ℕ × Sector)) × (all ≡ newer ++ first)

-- an event of the layer; or a read returns, which has seen these changes
pub data SessionStep : Type 0 where
  Does : (event : Event) → SessionStep
  Reads : (seen : List (ℕ × Sector)) (sector : ℕ) (value : Sector) → SessionStep

-- the events among the steps
abbrev pub events_in : List SessionStep → List Event
events_in [] = []
events_in (Does event ∷ steps) = event ∷ events_in steps
events_in (Reads seen sector value ∷ steps) = events_in steps

-- the updates that are made after an event. A command that succeeds makes its update if it is the program that ends a call; one that fails or is cut has
-- made it or not, as a mount reads then
abbrev pub MakesBy : Event → List Update → Flash → Core → List Update → Type 0
MakesBy (Completed update command) before t new made = made ≡ updates_with command update before
MakesBy (Failed update command) before t new made = Makes false update before made × Recovers t (device_of new).sectors (array_after made)
MakesBy (Retired update command) before t new made = Makes false update before made × Recovers t (device_of new).sectors (array_after made)
MakesBy (CutInside update command) before t new made = Makes false update before made × Recovers t (device_of new).sectors (array_after made)
MakesBy CutBetween before t new made = made ≡ before

-- a run from the first mount of an erased flash, its newest step first, and the updates that are made by then. A read answers what its sector holds after
-- a beginning of their changes, whichever. One that returns during a command stands before its event
abbrev pub RunsBeside : List SessionStep → Flash → Core → List Update → Type 0
RunsBeside [] f core made = Runs [] f core × (made ≡ [])
RunsBeside (Does event ∷ steps) t new made = (f : Flash) × (old : Core) × (before : List Update) × RunsBeside steps f old before
    × Happens event f old t new × MakesBy event before t new made
RunsBeside (Reads seen sector value ∷ steps) f core made = RunsBeside steps f core made × Extends (changes_in made) seen
    × (value ≡ value_after seen sector)

-- the changes go on from those that each read has seen, and it has answered what its sector holds after these
abbrev pub HasAllSeen : List SessionStep → List (ℕ × Sector) → Type 0
HasAllSeen [] all = Unit {0}
HasAllSeen (Does event ∷ steps) all = HasAllSeen steps all
HasAllSeen (Reads seen sector value ∷ steps) all = Extends all seen × (value ≡ value_after seen sector) × HasAllSeen steps all
