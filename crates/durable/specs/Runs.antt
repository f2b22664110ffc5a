-- Whole runs: commands that succeed, commands that fail, and power cuts inside a command or between two. A mount follows each cut, and after a failure
-- there is a mount too, or the failed block is retired.
use Rattle.std.specs.Prelude.{◌≡◌, ◌+◌, ℕ, Bool, true, false, List, [], ◌∷◌, if◌then◌else◌}
use Rattle.durable.specs.Updates.{Update}
use Rattle.durable.specs.Flash.{Flash, IsErased}
use Rattle.durable.specs.Commands.{Completes, CutLeaves, is_program, updates_with}
use Rattle.durable.specs.Device.{device_of, device_in}
use Rattle.durable.specs.Failures.{Changes, IsRenumbered, IsSameFlashOf, IsSwapped}
use Rattle.durable.specs.Retiring.{IsRetired, Retires}
use Rattle.durable.specs.Calls.{IsSafe, SurvivesCut, Acknowledges, HasNoted, Remounts}
use Rattle.durable.specs.declared.command.Command.{Command}
use Rattle.durable.specs.declared.memory.Core.{Core}
use Rattle.durable.specs.declared.mount.Mount.{Mount}

-- a command for an update succeeds; or it fails, and the flash is mounted, or its block retired; or a power cut falls inside it; or one falls between two
-- commands
pub data Event : Type 0 where
  Completed : (update : Update) (command : Command) → Event
  Failed : (update : Update) (command : Command) → Event
  Retired : (update : Update) (command : Command) → Event
  CutInside : (update : Update) (command : Command) → Event
  CutBetween : Event

-- a mount of this flash gave the layer: it is what `Mount::finish` ensures of one that has noted the flash's stamps
abbrev pub IsMountedFrom : Flash → Core → Type 0
IsMountedFrom f core = (mount : Mount) × HasNoted f mount × (device_of core ≡ device_in mount) × Remounts mount core

-- what an event does to the flash and to the layer. The commands are those of `Core::next`, and what they leave is what `Core::done`, `Core::retire`
-- and `Mount::finish` ensure. A command that fails leaves what a power cut inside it may leave; the blocks are numbered anew then
abbrev pub Happens : Event → Flash → Core → Flash → Core → Type 0
Happens (Completed update command) f old t new =
    Completes command update.extent update.value f t × Acknowledges old update.extent command new × (device_of new ≡ device_of old)
Happens (Failed update command) f old t new =
    (left : Flash) × SurvivesCut old update.extent command × CutLeaves command update.extent update.value f left
    × IsRenumbered left t (device_of old).read_blocks × IsMountedFrom t new × IsSameFlashOf (device_of old) (device_of new)
Happens (Retired update command) f old t new =
    (left : Bool) × (spare : ℕ) × IsRetired f t update.extent command left spare update.value × Retires old update.extent command left spare new
    × (device_of new ≡ device_of old)
Happens (CutInside update command) f old t new =
    SurvivesCut old update.extent command × CutLeaves command update.extent update.value f t × IsMountedFrom t new × (device_of new ≡ device_of old)
Happens CutBetween f old t new = (t ≡ f) × IsMountedFrom t new × (device_of new ≡ device_of old)

-- a run from the first mount of an erased flash, its newest event first
abbrev pub Runs : List Event → Flash → Core → Type 0
Runs [] f core = IsErased f × IsMountedFrom f core
Runs (event ∷ events) t new = (f : Flash) × (old : Core) × Runs events f old × Happens event f old t new

-- the updates whose program has succeeded, the newest first
abbrev pub acknowledged_in : List Event → List Update
acknowledged_in [] = []
acknowledged_in (Completed update command ∷ events) = updates_with command update (acknowledged_in events)
acknowledged_in (Failed update command ∷ events) = acknowledged_in events
acknowledged_in (Retired update command ∷ events) = acknowledged_in events
acknowledged_in (CutInside update command ∷ events) = acknowledged_in events
acknowledged_in (CutBetween ∷ events) = acknowledged_in events

-- the updates that may have reached the flash: those, and each whose command failed or was cut
abbrev pub begun_in : List Event → List Update
begun_in [] = []
begun_in (Completed update command ∷ events) = updates_with command update (begun_in events)
begun_in (Failed update command ∷ events) = update ∷ begun_in events
begun_in (Retired update command ∷ events) = update ∷ begun_in events
begun_in (CutInside update command ∷ events) = update ∷ begun_in events
begun_in (CutBetween ∷ events) = begun_in events

-- the calls of a run, the newest first, and whether each was acknowledged: its program has succeeded, or its command failed or was cut
abbrev pub outcomes_in : List Event → List (Update × Bool)
outcomes_in [] = []
outcomes_in (Completed update command ∷ events) = if is_program command then (update, true) ∷ outcomes_in events else outcomes_in events
outcomes_in (Failed update command ∷ events) = (update, false) ∷ outcomes_in events
outcomes_in (Retired update command ∷ events) = (update, false) ∷ outcomes_in events
outcomes_in (CutInside update command ∷ events) = (update, false) ∷ outcomes_in events
outcomes_in (CutBetween ∷ events) = outcomes_in events

-- how many commands of a run have failed
abbrev pub failures_in : List Event → ℕ
failures_in [] = 0
failures_in (Completed update command ∷ events) = failures_in events
failures_in (Failed update command ∷ events) = failures_in events + 1
failures_in (Retired update command ∷ events) = failures_in events + 1
failures_in (CutInside update command ∷ events) = failures_in events
failures_in (CutBetween ∷ events) = failures_in events

-- the same on a device whose blocks after those in use are a reserve, so many of them used up: a block whose command fails changes its number
-- with the next one of the reserve, and as many blocks stay in use
abbrev pub HappensOnReserve : ℕ → Event → Flash → Core → Flash → Core → Type 0
HappensOnReserve spent (Completed update command) f old t new = IsSafe old command × Happens (Completed update command) f old t new
HappensOnReserve spent (Failed update command) f old t new =
    IsSafe old command × (left : Flash) × (b : ℕ) × SurvivesCut old update.extent command × CutLeaves command update.extent update.value f left
    × Changes command b × IsSwapped left t b ((device_of old).blocks + spent) × IsMountedFrom t new × (device_of new ≡ device_of old)
HappensOnReserve spent (Retired update command) f old t new =
    let spare = (device_of old).blocks + spent in
    IsSafe old command × (left : Bool) × IsRetired f t update.extent command left spare update.value
    × Retires old update.extent command left spare new × (device_of new ≡ device_of old)
HappensOnReserve spent (CutInside update command) f old t new = IsSafe old command × Happens (CutInside update command) f old t new
HappensOnReserve spent CutBetween f old t new = Happens CutBetween f old t new

-- a run on such a device, from the first mount of an erased flash, its newest event first
abbrev pub RunsOnReserve : List Event → Flash → Core → Type 0
RunsOnReserve [] f core = Runs [] f core
RunsOnReserve (event ∷ events) t new = (f : Flash) × (old : Core) × RunsOnReserve events f old × HappensOnReserve (failures_in events) event f old t new
