-- What a call of C for a driver returns, and what it leaves.
use Rattle.std.specs.Prelude.{◌≡◌, ◌≢◌, ◌<◌, ◌-◌, ℕ, Bool, true, false, ◌==◌, if◌then◌else◌, List, Option, None, Some, Result, Ok, Err, nat_le}
use Rattle.geometry.specs.Sectors.{Sector}
use Rattle.geometry.specs.declared.page_addr.PageAddr.{PageAddr}
use Rattle.durable.specs.Device.{device_of}
use Rattle.durable.specs.Flash.{Flash, is_trim}
use Rattle.durable.specs.Updates.{Update, array_after}
use Rattle.durable.specs.declared.extent.Extent.{Extent}
use Rattle.nand.specs.Driving.{BeginsCall, CutHoldsIn, HasBegunCall, HasSector, HoldsNow, IsLeftAlone, IsOneToOne, IsStepAllowed, Knows, StepChanges}
use Rattle.nand.specs.Driving.{StepCutLeaves, Takes, array_now, can_read, driver_sectors, is_busy_in, step_of}
use Rattle.nand.specs.declared.driver.Answer.{Answer}
use Rattle.nand.specs.declared.driver.Answer.TheVariants as answer
use Rattle.nand.specs.declared.driver.Driver.{Driver}
use Rattle.nand.specs.declared.driver.Main.{Main}
use Rattle.nand.specs.declared.driver.Main.TheVariants as main
use Rattle.nand.specs.declared.driver.Refusal.{Refusal}
use Rattle.nand.specs.declared.driver.Refusal.TheVariants as refusal
use Rattle.nand.specs.declared.driver.Step.{Step}
use Rattle.nand.specs.declared.driver.Step.TheVariants as step
use Rattle.nand.specs.declared.flash.Reading.{Reading}
use Rattle.nand.specs.declared.flash.Reading.TheVariants as reading
use Rattle.nand.specs.declared.flash.Stamp.{Stamp}
use Rattle.durable_exports.specs.declared.codes.TheConstants.{DONE, CLOSED, NO_SECTOR, NO_MEMORY, NO_BLOCK, WRONG_KIND, EXHAUSTED, POWER_GONE}
use Rattle.durable_exports.specs.declared.codes.TheConstants.{NO_NUMBER, OUT_OF_ORDER}
use Rattle.durable_exports.specs.declared.layer.Layer.{Layer}
use Rattle.durable_exports.specs.declared.reports.StepReport.{StepReport}
use Rattle.durable_exports.specs.declared.seat.Seat.{Seat}
use Rattle.durable_exports.specs.declared.seat.Seat.TheVariants.{Mounting, Mounted, Driving}

-- the code of a call for a driver, which other seats refuse
abbrev pub code_of_driver : Option Seat → (Driver → ℕ) → ℕ
code_of_driver None code = CLOSED
code_of_driver (Some (Mounting m)) code = WRONG_KIND
code_of_driver (Some (Mounted l)) code = WRONG_KIND
code_of_driver (Some (Driving d)) code = code d

-- this holds of the driver, if there is one
abbrev pub OfDriver : Option Seat → (Driver → Type 0) → Type 0
OfDriver None says = Unit {0}
OfDriver (Some (Mounting m)) says = Unit {0}
OfDriver (Some (Mounted l)) says = Unit {0}
OfDriver (Some (Driving d)) says = says d

-- there is a driver, and this holds of it
abbrev pub HasDriver : Option Seat → (Driver → Type 0) → Type 0
HasDriver None says = ⊥
HasDriver (Some (Mounting m)) says = ⊥
HasDriver (Some (Mounted l)) says = ⊥
HasDriver (Some (Driving d)) says = says d

-- the code of an open: whether so many numbers are there, of which those in use are good, and then whether there is no memory
abbrev pub drive_code : Bool → Bool → ℕ
drive_code fits no_memory = if fits then (if no_memory then NO_MEMORY else DONE) else NO_BLOCK

-- the code of a refusal
abbrev pub refusal_code : Refusal → ℕ
refusal_code refusal.Busy = OUT_OF_ORDER
refusal_code refusal.Outside = NO_SECTOR
refusal_code refusal.ReadOnly = EXHAUSTED
refusal_code refusal.Closed = POWER_GONE
refusal_code refusal.NoNumber = NO_NUMBER

-- the code of how a call begins or ends
abbrev pub outcome_code : Result (Unit {0}) Refusal → ℕ
outcome_code (Ok done) = DONE
outcome_code (Err why) = refusal_code why

-- the code of how the last call of a driver has ended
abbrev pub result_code : Driver → ℕ
result_code d = if is_busy_in d.phase then OUT_OF_ORDER else outcome_code d.outcome

-- what a program programs, as it is reported
abbrev pub programmed_value : Bool → Main → ℕ
programmed_value trimmed main.Lost = 4
programmed_value true main.Caller = 3
programmed_value true (main.Page from) = 3
programmed_value false (main.Page from) = 2
programmed_value false main.Caller = 1

-- the page whose main bytes a program takes, or the first one of the chip
abbrev pub page_kept : Main → PageAddr
page_kept main.Caller = record { block = 0; page = 0 }
page_kept (main.Page from) = from
page_kept main.Lost = record { block = 0; page = 0 }

-- a step of this kind at a page, as it is reported
abbrev pub report_at : ℕ → PageAddr → StepReport
report_at kind at = record {
  kind = kind;
  value = 0;
  first = 0;
  count = 0;
  from_block = 0;
  from_page = 0;
  block = at.block;
  page = at.page;
  number = 0;
}

-- a step, as it is reported
abbrev pub step_report : Step → StepReport
step_report (step.Program at stamp of) = record {
  kind = 1;
  value = programmed_value stamp.trimmed of;
  first = stamp.extent.first;
  count = stamp.extent.count;
  from_block = (page_kept of).block;
  from_page = (page_kept of).page;
  block = at.block;
  page = at.page;
  number = stamp.number;
}
step_report (step.Copy k from to) = record {
  kind = 2;
  value = 0;
  first = k;
  count = 1;
  from_block = from.block;
  from_page = from.page;
  block = to.block;
  page = to.page;
  number = 0;
}
step_report (step.Erase b) = report_at 3 (record { block = b; page = 0 })
step_report (step.Read at) = report_at 4 at
step_report (step.Mark b) = report_at 5 (record { block = b; page = 0 })
step_report step.Ended = report_at 0 (record { block = 0; page = 0 })

-- the answer that a number stands for
abbrev pub told_answer : ℕ → Answer
told_answer n = if n == 0 then answer.Done else (if n == 1 then answer.Failed else answer.PowerGone)

-- what a read has found that is told so
abbrev pub told_reading : ℕ → Extent → ℕ → Reading
told_reading has_version e n =
    if has_version == 0 then reading.Unreadable
    else reading.Version (record { extent = e; number = n; trimmed = has_version == 2 })

-- a driver over the layer that a mount gives, by these numbers of the chip's blocks, of which so many are good
abbrev pub DrivesLayer : List ℕ → ℕ → Layer → Driver → Type 0
DrivesLayer numbers good l d =
    (driver_sectors d ≡ (device_of l.core).sectors) × (is_busy_in d.phase ≡ false) × (d.good - d.spare ≡ good - (device_of l.core).blocks)
    × ((f : Flash) (value : Sector) (updates : List Update) → Knows f numbers l.core (device_of l.core).blocks good (array_after updates)
    → HoldsNow f d value (array_after updates))

-- the report is of the step that comes next: the flash may get it, it programs and erases no block that is left alone, and whatever a power cut leaves inside
-- it can be mounted. It is none once the call has ended, and not before
abbrev pub IsStepFor : StepReport → Driver → Type 0
IsStepFor out d =
    (out ≡ step_report (step_of d))
    × ((f : Flash) (value : Sector) (was : ℕ → Sector) → HoldsNow f d value was → IsStepAllowed f (step_of d))
    × ((b : ℕ) → StepChanges (step_of d) b → ¬ IsLeftAlone d b)
    × ((f t : Flash) (value : Sector) (was : ℕ → Sector) → HoldsNow f d value was → StepCutLeaves (step_of d) value f t → CutHoldsIn d.phase t d value was)
    × (is_busy_in d.phase ≡ false → step_of d ≡ step.Ended) × (is_busy_in d.phase ≡ true → step_of d ≢ step.Ended)

-- a call of these sectors has begun
abbrev pub BeginsUpdate : Extent → Bool → Driver → Driver → Type 0
BeginsUpdate e trimmed d after =
    HasBegunCall e trimmed d after × ((f : Flash) (before value : Sector) (was : ℕ → Sector) → HoldsNow f d before was → is_trim value ≡ trimmed
    → HoldsNow f after value (array_now d before was))

-- the code of a begin for these sectors: that of what the driver says to it
abbrev pub IsBeginCode : Extent → ℕ → Driver → Type 0
IsBeginCode e code d = (result : Result (Unit {0}) Refusal) × BeginsCall d e result × (code ≡ outcome_code result)

-- the step that came next has had this answer. A block whose command has failed is left alone from then on
abbrev pub AnswersStep : Answer → Driver → Driver → Type 0
AnswersStep a d after =
    Takes d a after
    × ((b : ℕ) → IsOneToOne d.numbers.items → a ≡ answer.Failed → StepChanges (step_of d) b → IsLeftAlone after b)
    × ((b : ℕ) → IsOneToOne d.numbers.items → IsLeftAlone d b → IsLeftAlone after b)

-- the page that was found has what the sector has, while no call is under way
abbrev pub IsDriverPage : ℕ → Option PageAddr → Driver → Type 0
IsDriverPage s page d = (f : Flash) (value : Sector) (was : ℕ → Sector) → HoldsNow f d value was → can_read d.phase ≡ true
    → s < driver_sectors d → HasSector f s (array_now d value was s) page

-- the code of a call for a sector of a driver
abbrev pub driver_sector_code : ℕ → ℕ → Driver → ℕ
driver_sector_code s code d = if nat_le (driver_sectors d) s then NO_SECTOR else code
