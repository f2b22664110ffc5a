-- A driver and the flash of its chip: what its steps do to the flash, and what the two hold together.
use Rattle.std.specs.Prelude.{◌≡◌, ◌≢◌, ◌⊎◌, ◌<◌, ◌≤◌, ◌+◌, ◌^◌, ℕ, Bool, true, false, List, [], ◌∷◌, Option, Some, None, Result, Ok, Err, if◌then◌else◌}
use Rattle.geometry.specs.Sectors.{Sector}
use Rattle.geometry.specs.declared.page_addr.PageAddr.{PageAddr}
use Rattle.durable.specs.Collecting.{IsFree}
use Rattle.durable.specs.Commands.{Completes, CutLeaves, IsAllowed, IsSameFlash}
use Rattle.durable.specs.Device.{device_of, losses_of, next_number_of}
use Rattle.durable.specs.Failures.{HoldsNoVersion}
use Rattle.durable.specs.Flash.{Flash, LosesPages, Version, is_trim}
use Rattle.durable.specs.Memory.{IsMappedTo, map_entry}
use Rattle.durable.specs.Next.{HasFree}
use Rattle.durable.specs.Promise.{IsConsistent, IsRecoverable}
use Rattle.durable.specs.Updates.{Covers, Update, array_after, changed, sole}
use Rattle.durable.specs.declared.command.Command.{Command}
use Rattle.durable.specs.declared.command.Command.TheVariants as command
use Rattle.durable.specs.declared.extent.Extent.{Extent}
use Rattle.durable.specs.declared.memory.Core.{Core}
use Rattle.nand.specs.Nand.{ReadsStamp}
use Rattle.nand.specs.Numbers.{chip_block, chip_page, numbered}
use Rattle.nand.specs.Phases.{IsOfDevice}
use Rattle.nand.specs.declared.driver.Answer.{Answer}
use Rattle.nand.specs.declared.driver.Answer.TheVariants as answer
use Rattle.nand.specs.declared.driver.Driver.{Driver}
use Rattle.nand.specs.declared.driver.Job.{Job}
use Rattle.nand.specs.declared.driver.Main.{Main}
use Rattle.nand.specs.declared.driver.Main.TheVariants as main
use Rattle.nand.specs.declared.driver.Phase.{Phase}
use Rattle.nand.specs.declared.driver.Phase.TheVariants as phase
use Rattle.nand.specs.declared.driver.Refusal.{Refusal}
use Rattle.nand.specs.declared.driver.Refusal.TheVariants as refusal
use Rattle.nand.specs.declared.flash.Reading.{Reading}
use Rattle.nand.specs.declared.driver.Step.{Step}
use Rattle.nand.specs.declared.driver.Step.TheVariants as step

-- the device that the driver runs on
abbrev pub driver_sectors : Driver → ℕ
driver_sectors driver = (device_of driver.core).sectors

-- the step of a command for a job, by the chip's blocks
abbrev pub step_for : List ℕ → Command → Job → Step
step_for numbers (command.Program at n) job =
    step.Program (chip_page numbers at) (record { extent = job.extent; number = n; trimmed = job.trimmed }) job.main
step_for numbers (command.Copy k from to) job = step.Copy k (chip_page numbers from) (chip_page numbers to)
step_for numbers (command.Erase b) job = step.Erase (chip_block numbers b)
step_for numbers command.Refused job = step.Ended

-- the step of what is under way; the block to be marked has this number
abbrev pub step_in : List ℕ → ℕ → Phase → Step
step_in numbers unmarked phase.Idle = step.Ended
step_in numbers unmarked (phase.Perform m job) = step_for numbers m job
step_in numbers unmarked (phase.Look at n job) = step.Read (chip_page numbers at)
step_in numbers unmarked (phase.Fetch from extent) = step.Read from
step_in numbers unmarked (phase.Mark extent) = step.Mark (chip_block numbers unmarked)
step_in numbers unmarked phase.ReadOnly = step.Ended
step_in numbers unmarked phase.Closed = step.Ended

-- what the driver does next
abbrev pub step_of : Driver → Step
step_of driver = step_in driver.numbers.items driver.unmarked driver.phase

-- whether a call is under way
abbrev pub is_busy_in : Phase → Bool
is_busy_in phase.Idle = false
is_busy_in (phase.Perform m job) = true
is_busy_in (phase.Look at n job) = true
is_busy_in (phase.Fetch from extent) = true
is_busy_in (phase.Mark extent) = true
is_busy_in phase.ReadOnly = false
is_busy_in phase.Closed = false

-- whether the pages can be read that have the sectors: no call is under way, and the power was there
abbrev pub can_read : Phase → Bool
can_read phase.Idle = true
can_read (phase.Perform m job) = false
can_read (phase.Look at n job) = false
can_read (phase.Fetch from extent) = false
can_read (phase.Mark extent) = false
can_read phase.ReadOnly = true
can_read phase.Closed = false

-- the page has a version of the sector with this value; without a page the sector is empty
abbrev pub HasSector : Flash → ℕ → Sector → Option PageAddr → Type 0
HasSector f s value None = value ≡ None
HasSector f s value (Some at) = (e : Extent) × (n : ℕ) × Covers e s × (f at.block at.page ≡ Version e n value)

-- what the main bytes of a program are the bytes of: of the caller's value, or of what the page has that was read
abbrev pub IsMain : Flash → Main → Sector → Sector → Type 0
IsMain f main.Caller value v = v ≡ value
IsMain f (main.Page from) value v = (e : Extent) × (m : ℕ) × (f from.block from.page ≡ Version e m v)
IsMain f main.Lost value v = Unit {0}

-- the value of a version that is a trim, or has these main bytes
abbrev pub value_unless : Bool → Sector → Sector
value_unless true value = None
value_unless false value = value

-- what a step leaves that is done, where the caller's value is this one
abbrev pub StepCompletes : Step → Sector → Flash → Flash → Type 0
StepCompletes (step.Program at stamp main) value f t = (v : Sector) × IsMain f main value v
    × Completes (command.Program at stamp.number) stamp.extent (value_unless stamp.trimmed v) f t
StepCompletes (step.Copy k from to) value f t = Completes (command.Copy k from to) (sole k) None f t
StepCompletes (step.Erase b) value f t = Completes (command.Erase b) (sole 0) None f t
StepCompletes (step.Read at) value f t = IsSameFlash f t
StepCompletes (step.Mark b) value f t = LosesPages f t b
StepCompletes step.Ended value f t = IsSameFlash f t

-- what a step leaves that fails, or that a power cut falls into
abbrev pub StepCutLeaves : Step → Sector → Flash → Flash → Type 0
StepCutLeaves (step.Program at stamp main) value f t = (v : Sector) × IsMain f main value v
    × CutLeaves (command.Program at stamp.number) stamp.extent (value_unless stamp.trimmed v) f t
StepCutLeaves (step.Copy k from to) value f t = CutLeaves (command.Copy k from to) (sole k) None f t
StepCutLeaves (step.Erase b) value f t = CutLeaves (command.Erase b) (sole 0) None f t
StepCutLeaves (step.Read at) value f t = IsSameFlash f t
StepCutLeaves (step.Mark b) value f t = LosesPages f t b
StepCutLeaves step.Ended value f t = IsSameFlash f t

-- what was found is what the page has that the step reads
abbrev pub StepReads : Step → (PageAddr → Type 0) → Type 0
StepReads (step.Read at) Reads = Reads at
StepReads (step.Program at stamp main) Reads = Unit {0}
StepReads (step.Copy k from to) Reads = Unit {0}
StepReads (step.Erase b) Reads = Unit {0}
StepReads (step.Mark b) Reads = Unit {0}
StepReads step.Ended Reads = Unit {0}

-- what a step leaves that has this answer
abbrev pub StepLeaves : Step → Answer → Sector → Flash → Flash → Type 0
StepLeaves step answer.Done value f t = StepCompletes step value f t
StepLeaves step answer.Failed value f t = StepCutLeaves step value f t
StepLeaves step answer.PowerGone value f t = StepCutLeaves step value f t
StepLeaves step (answer.Found reading) value f t = IsSameFlash f t × StepReads step (λ at. ReadsStamp (f at.block at.page) reading)

-- the step programs only an erased page
abbrev pub IsStepAllowed : Flash → Step → Type 0
IsStepAllowed f (step.Program at stamp main) = IsAllowed f (command.Program at stamp.number)
IsStepAllowed f (step.Copy k from to) = IsAllowed f (command.Copy k from to)
IsStepAllowed f (step.Erase b) = Unit {0}
IsStepAllowed f (step.Read at) = Unit {0}
IsStepAllowed f (step.Mark b) = Unit {0}
IsStepAllowed f step.Ended = Unit {0}

-- the step programs or erases this block
abbrev pub StepChanges : Step → ℕ → Type 0
StepChanges (step.Program at stamp main) b = b ≡ at.block
StepChanges (step.Copy k from to) b = b ≡ to.block
StepChanges (step.Erase c) b = b ≡ c
StepChanges (step.Read at) b = ⊥
StepChanges (step.Mark c) b = ⊥
StepChanges step.Ended b = ⊥

-- no two numbers are of one block of the chip
abbrev pub IsOneToOne : List ℕ → Type 0
IsOneToOne numbers = (c d : ℕ) → chip_block numbers c ≡ chip_block numbers d → c ≡ d

-- the number is of a block in use or in reserve
abbrev pub IsStillGood : ℕ → ℕ → ℕ → ℕ → Type 0
IsStillGood blocks spare good c = (c < blocks) ⊎ ((spare ≤ c) × (c < good))

-- the block has failed, or was bad: it is neither in use nor in reserve
abbrev pub IsGivenUp : Driver → ℕ → Type 0
IsGivenUp driver b = (c : ℕ) → IsStillGood (device_of driver.core).blocks driver.spare driver.good c → chip_block driver.numbers.items c ≢ b

-- a block with a program that has failed is only read, until it is given up; and so is each block of a device that gets no command any more
abbrev pub IsLeftIn : Phase → List ℕ → ℕ → Type 0
IsLeftIn phase.Idle numbers b = ⊥
IsLeftIn (phase.Perform m job) numbers b = ⊥
IsLeftIn (phase.Look at n job) numbers b = chip_block numbers at.block ≡ b
IsLeftIn (phase.Fetch from extent) numbers b = ⊥
IsLeftIn (phase.Mark extent) numbers b = ⊥
IsLeftIn phase.ReadOnly numbers b = Unit {0}
IsLeftIn phase.Closed numbers b = Unit {0}

-- the block gets no program and no erase any more
abbrev pub IsLeftAlone : Driver → ℕ → Type 0
IsLeftAlone driver b = IsGivenUp driver b ⊎ IsLeftIn driver.phase driver.numbers.items b

-- whether the update of the last call is made
abbrev pub is_made : Result (Unit {0}) Refusal → Bool
is_made (Ok done) = true
is_made (Err why) = false

-- the array now, by that from before the last call and the caller's value
abbrev pub array_now : Driver → Sector → (ℕ → Sector) → ℕ → Sector
array_now driver value was k = if is_made driver.outcome then changed was driver.call value k else was k

-- the flash can be mounted by these numbers, and the array is this one
pub record CanMount (f : Flash) (numbers : List ℕ) (core : Core) (array : ℕ → Sector) : Type 0 where
  pub updates : List Update
  pub recovers : IsRecoverable (numbered numbers f) (device_of core) updates updates
  pub has : (s : ℕ) → s < (device_of core).sectors → array_after updates s ≡ array s

-- the driver has the device and the call as before; a block that was given up stays so, and an update that is made
pub record StaysDriver (old new : Driver) : Type 0 where
  pub call : new.call ≡ old.call
  pub device : device_of new.core ≡ device_of old.core
  pub losses : losses_of new.core ≡ losses_of old.core
  pub given_up : (b : ℕ) → IsGivenUp old b → IsGivenUp new b
  pub apart : IsOneToOne old.numbers.items → IsOneToOne new.numbers.items
  pub made : is_made old.outcome ≡ true → is_made new.outcome ≡ true

-- the layer knows the chip's blocks by these numbers and what they hold, which is this array, and the reserve holds nothing
pub record Knows (f : Flash) (numbers : List ℕ) (core : Core) (spare good : ℕ) (array : ℕ → Sector) : Type 0 where
  pub apart : IsOneToOne numbers
  pub fits : good ≤ (device_of core).read_blocks
  pub blank : (c : ℕ) → spare ≤ c → c < good → HoldsNoVersion (numbered numbers f) c
  pub updates : List Update
  pub consistent : IsConsistent (numbered numbers f) core updates updates
  pub has : (s : ℕ) → s < (device_of core).sectors → array_after updates s ≡ array s

-- the same of a driver
abbrev pub KnowsArray : Flash → Driver → (ℕ → Sector) → Type 0
KnowsArray f driver array = Knows f driver.numbers.items driver.core driver.spare driver.good array

-- the page is in a block that was given up, by these numbers, and its version has what these sectors have. The call's update is made
pub record IsMoving (f : Flash) (made : Bool) (numbers : List ℕ) (blocks spare good : ℕ) (from : PageAddr) (extent : Extent) (array : ℕ → Sector) (v : Sector)
    : Type 0 where
  pub is : made ≡ true
  pub left : (c : ℕ) → IsStillGood blocks spare good c → chip_block numbers c ≢ from.block
  pub extent_there : Extent
  pub number : ℕ
  pub held : f from.block from.page ≡ Version extent_there number v
  pub same : (s : ℕ) → Covers extent s → array s ≡ v

-- the same of a driver
abbrev pub IsMovingOf : Flash → Driver → PageAddr → Extent → (ℕ → Sector) → Sector → Type 0
IsMovingOf f driver from extent array v =
    IsMoving f (is_made driver.outcome) driver.numbers.items (device_of driver.core).blocks driver.spare driver.good from extent array v

-- what holds of a job by where its main bytes come from: of the call's update, or of a move
abbrev pub IsJobBy : Main → Type 0 → (PageAddr → Type 0) → Type 0
IsJobBy main.Caller Call Move = Call
IsJobBy (main.Page from) Call Move = Move from
IsJobBy main.Lost Call Move = ⊥

-- the job is the call's update, with the caller's value, or it gives sectors what they have; it is a trim as its value is
abbrev pub IsJob : Flash → Driver → Job → Sector → (ℕ → Sector) → Sector → Type 0
IsJob f driver job value was v = (job.trimmed ≡ is_trim v) × IsJobBy job.main
    ((is_made driver.outcome ≡ false) × (job.extent ≡ driver.call) × (v ≡ value))
    (λ from. IsMovingOf f driver from job.extent (array_now driver value was) v)

-- the layer's map says where the array is, which the flash can be mounted with
abbrev pub ReadsArray : Flash → Driver → (ℕ → Sector) → Type 0
ReadsArray f driver array =
    ((s : ℕ) → s < driver_sectors driver → IsMappedTo (numbered driver.numbers.items f) s (array s) (map_entry driver.core s))
    × CanMount f driver.numbers.items driver.core array

-- what the flash holds by what is under way, where the caller's value and the array from before the call are these
abbrev pub HoldsIn : Phase → Flash → Driver → Sector → (ℕ → Sector) → Type 0
HoldsIn phase.Idle f driver value was = KnowsArray f driver (array_now driver value was)
HoldsIn (phase.Perform m job) f driver value was =
    KnowsArray f driver (array_now driver value was) × (v : Sector) × IsJob f driver job value was v
HoldsIn (phase.Look at n job) f driver value was = (before : Flash) × (v : Sector)
    × KnowsArray before driver (array_now driver value was) × IsJob before driver job value was v
    × CutLeaves (command.Program (chip_page driver.numbers.items at) n) job.extent v before f
HoldsIn (phase.Fetch from extent) f driver value was =
    KnowsArray f driver (array_now driver value was) × (v : Sector) × IsMovingOf f driver from extent (array_now driver value was) v
HoldsIn (phase.Mark extent) f driver value was =
    KnowsArray f driver (array_now driver value was) × (is_made driver.outcome ≡ true) × IsFree driver.core.map.items driver.unmarked
    × HasFree driver.core.blocks driver.core.map.items driver.core.next_pages
HoldsIn phase.ReadOnly f driver value was = ReadsArray f driver (array_now driver value was)
HoldsIn phase.Closed f driver value was = Unit {0}

-- the flash holds what the driver takes it to hold: the array from before the last call, with the call's update once it is made
abbrev pub HoldsNow : Flash → Driver → Sector → (ℕ → Sector) → Type 0
HoldsNow f driver value was = HoldsIn driver.phase f driver value was

-- the flash can be mounted, with the array as it is, or with the one after the call
abbrev pub CanMountEither : Flash → Driver → Sector → (ℕ → Sector) → Type 0
CanMountEither f driver value was = CanMount f driver.numbers.items driver.core (array_now driver value was)
    ⊎ CanMount f driver.numbers.items driver.core (changed was driver.call value)

-- what a power cut leaves
abbrev pub CutHoldsIn : Phase → Flash → Driver → Sector → (ℕ → Sector) → Type 0
CutHoldsIn phase.Idle f driver value was = CanMount f driver.numbers.items driver.core (array_now driver value was)
CutHoldsIn (phase.Perform m job) f driver value was = CanMountEither f driver value was
CutHoldsIn (phase.Look at n job) f driver value was = CanMountEither f driver value was
CutHoldsIn (phase.Fetch from extent) f driver value was = CanMount f driver.numbers.items driver.core (array_now driver value was)
CutHoldsIn (phase.Mark extent) f driver value was = CanMount f driver.numbers.items driver.core (array_now driver value was)
CutHoldsIn phase.ReadOnly f driver value was = CanMount f driver.numbers.items driver.core (array_now driver value was)
CutHoldsIn phase.Closed f driver value was = Unit {0}

-- the numbers of versions have run out
abbrev pub IsOutOfNumbers : Core → Type 0
IsOutOfNumbers core = 2 ^ 64 ≤ next_number_of core + 1

-- how a call of these sectors begins while none is under way: the device has them, or they are refused. For want of a number one is refused only where the
-- numbers have run out
abbrev pub BeginsAtRest : Core → Extent → Result (Unit {0}) Refusal → Type 0
BeginsAtRest core extent (Ok done) = IsOfDevice core extent
BeginsAtRest core extent (Err refusal.Outside) = ¬ IsOfDevice core extent
BeginsAtRest core extent (Err refusal.NoNumber) = IsOfDevice core extent × IsOutOfNumbers core
BeginsAtRest core extent (Err refusal.Busy) = ⊥
BeginsAtRest core extent (Err refusal.ReadOnly) = ⊥
BeginsAtRest core extent (Err refusal.Closed) = ⊥

-- the same by what is under way, which may refuse any call
abbrev pub BeginsIn : Phase → Core → Extent → Result (Unit {0}) Refusal → Type 0
BeginsIn phase.Idle core extent result = BeginsAtRest core extent result
BeginsIn (phase.Perform m job) core extent result = result ≡ Err refusal.Busy
BeginsIn (phase.Look at n job) core extent result = result ≡ Err refusal.Busy
BeginsIn (phase.Fetch from sectors) core extent result = result ≡ Err refusal.Busy
BeginsIn (phase.Mark sectors) core extent result = result ≡ Err refusal.Busy
BeginsIn phase.ReadOnly core extent result = result ≡ Err refusal.ReadOnly
BeginsIn phase.Closed core extent result = result ≡ Err refusal.Closed

-- what a driver says to a call of these sectors
abbrev pub BeginsCall : Driver → Extent → Result (Unit {0}) Refusal → Type 0
BeginsCall driver extent result = BeginsIn driver.phase driver.core extent result

-- a call of these sectors has begun: a command of the write or trim is under way, with the caller's bytes, and its update isn't made. The layer and the
-- blocks are as before
pub record HasBegunCall (extent : Extent) (trimmed : Bool) (old new : Driver) : Type 0 where
  pub call : new.call ≡ extent
  pub outcome : new.outcome ≡ Err refusal.Closed
  pub command : Command
  pub first : new.phase ≡ phase.Perform command (record { extent = extent; trimmed = trimmed; main = main.Caller })
  pub core : new.core ≡ old.core
  pub numbers : new.numbers ≡ old.numbers
  pub unmarked : new.unmarked ≡ old.unmarked
  pub spare : new.spare ≡ old.spare
  pub good : new.good ≡ old.good

-- what is under way was done
abbrev pub IsDoneIn : Phase → Answer → Type 0
IsDoneIn phase.Idle told = ⊥
IsDoneIn (phase.Perform m job) told = told ≡ answer.Done
IsDoneIn (phase.Look at n job) told = ⊥
IsDoneIn (phase.Fetch from extent) told = (reading : Reading) × (told ≡ answer.Found reading)
IsDoneIn (phase.Mark extent) told = told ≡ answer.Done
IsDoneIn phase.ReadOnly told = ⊥
IsDoneIn phase.Closed told = ⊥

-- a command has failed: now, or it was a program, whose page was read since
abbrev pub IsFailureIn : Phase → Answer → Type 0
IsFailureIn phase.Idle told = ⊥
IsFailureIn (phase.Perform m job) told = told ≡ answer.Failed
IsFailureIn (phase.Look at n job) told = (reading : Reading) × (told ≡ answer.Found reading)
IsFailureIn (phase.Fetch from extent) told = ⊥
IsFailureIn (phase.Mark extent) told = ⊥
IsFailureIn phase.ReadOnly told = ⊥
IsFailureIn phase.Closed told = ⊥

-- the update is made; or the call goes on; or it has ended without it, as the numbers of versions have run out
abbrev pub TellsOutcome : Driver → Driver → Type 0
TellsOutcome old new = (new.outcome ≡ Ok tt) ⊎ ((is_busy_in new.phase ≡ true) × (new.outcome ≡ old.outcome))
    ⊎ ((new.phase ≡ phase.Idle) × (new.outcome ≡ Err refusal.NoNumber) × IsOutOfNumbers new.core)

-- after what was under way was done, calls can go on, and no block of the reserve was used
pub record IsAfterSuccess (old new : Driver) : Type 0 where
  pub here : new.phase ≢ phase.Closed
  pub writes : new.phase ≢ phase.ReadOnly
  pub outcome : TellsOutcome old new
  pub spare : new.spare ≡ old.spare
  pub good : new.good ≡ old.good

-- after a command has failed, the page of a program is read, and then a block of the reserve is used; or the device is only read, and the call has ended
pub record IsAfterFailure (old new : Driver) : Type 0 where
  pub here : new.phase ≢ phase.Closed
  pub outcome : TellsOutcome old new ⊎ ((new.phase ≡ phase.ReadOnly) × (new.outcome ≡ Err refusal.ReadOnly))
  pub spare : (new.spare ≡ old.spare) ⊎ ((new.spare ≡ old.spare + 1) × (new.phase ≢ phase.ReadOnly))
  pub good : new.good ≡ old.good
  pub unmarked : new.unmarked ≡ old.unmarked

-- the driver is closed, and the rest is as it was
pub record IsAfterCut (old new : Driver) : Type 0 where
  pub closed : new.phase ≡ phase.Closed
  pub outcome : new.outcome ≡ old.outcome
  pub spare : new.spare ≡ old.spare
  pub good : new.good ≡ old.good
  pub unmarked : new.unmarked ≡ old.unmarked

-- how a driver goes on after an answer, and how its call ends. While a block is in reserve, one that has failed doesn't make the device only read
pub record GoesOnAfter (old : Driver) (told : Answer) (new : Driver) : Type 0 where
  pub success : IsDoneIn old.phase told → IsAfterSuccess old new
  pub failure : IsFailureIn old.phase told → IsAfterFailure old new
  pub reserve : (f : Flash) (value : Sector) (was : ℕ → Sector) → HoldsNow f old value was → IsFailureIn old.phase told
      → old.spare < old.good → new.phase ≢ phase.ReadOnly
  pub cut : is_busy_in old.phase ≡ true → ¬ IsDoneIn old.phase told → ¬ IsFailureIn old.phase told → IsAfterCut old new
  pub rest : is_busy_in old.phase ≡ false → new ≡ old

-- a driver takes an answer, as `Driver::done` ensures
abbrev pub Takes : Driver → Answer → Driver → Type 0
Takes old answer new = StaysDriver old new × ((f t : Flash) (value : Sector) (was : ℕ → Sector) → HoldsNow f old value was
    → StepLeaves (step_of old) answer value f t → HoldsNow t new value was) × GoesOnAfter old answer new

-- steps in a row with these answers, each one what the driver says next
abbrev pub Drives : List Answer → Sector → Flash → Driver → Flash → Driver → Type 0
Drives [] value f old t new = (t ≡ f) × (new ≡ old)
Drives (answer ∷ answers) value f old t new = (g : Flash) × (mid : Driver) × StepLeaves (step_of old) answer value f g × Takes old answer mid
    × Drives answers value g mid t new
