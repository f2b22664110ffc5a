-- What a call of C returns, and what it leaves: by what the handle has.
use Rattle.std.specs.Prelude.{◌≡◌, ◌≢◌, ◌<◌, ◌≤◌, ◌^◌, ℕ, Bool, nat_le, nat_lt, ◌+◌, ◌&&◌, ◌==◌, List, Option, None, Some, IfSome, if◌then◌else◌}
use Rattle.geometry.specs.declared.page_addr.PageAddr.{PageAddr}
use Rattle.durable.specs.Flash.{Flash}
use Rattle.durable.specs.declared.extent.Extent.{Extent}
use Rattle.durable.specs.Updates.{Update, array_after}
use Rattle.durable.specs.Candidates.{number_above}
use Rattle.durable.specs.Device.{Device, device_of, device_in, losses_of, next_pages_of, next_number_in, next_number_of, IsStampOn, IsWrittenOn}
use Rattle.durable.specs.Memory.{IsMappedTo}
use Rattle.durable.specs.Mounting.{IsStampOf, next_in, after_in}
use Rattle.durable.specs.Choice.{IsNextCommand, Spends, StaysOpen, left, number_after}
use Rattle.durable.specs.Promise.{IsRecoverable, IsConsistent}
use Rattle.durable.specs.Calls.{IsSafe, SurvivesCut, SurvivesIdleCut, Acknowledges, CountsLosses, DropsTrims, HasNoted, Remounts}
use Rattle.durable.specs.Calls.{TellsLosses, TellsNoFalseLoss}
use Rattle.durable.specs.Failures.{HoldsNoVersion}
use Rattle.durable.specs.Retiring.{Retires}
use Rattle.durable.specs.Whole.{CutsIdleUnharmed, CutsUnharmed, MountsWhole, RetiresWhole, StaysWhole}
use Rattle.durable.specs.declared.command.Command.{Command}
use Rattle.durable.specs.declared.command.Command.TheVariants.{Refused}
use Rattle.durable.specs.declared.found.Stamp.{Stamp}
use Rattle.durable.specs.declared.mount.Mount.{Mount}
use Rattle.durable_exports.specs.declared.codes.TheConstants.{DONE, CLOSED, NO_SECTOR, NO_MEMORY, NO_BLOCK, ALREADY_OPEN, WRONG_KIND}
use Rattle.durable_exports.specs.declared.codes.TheConstants.{OTHER_DEVICE, OUT_OF_ORDER, TOO_FEW_BLOCKS}
use Rattle.durable_exports.specs.declared.layer.Layer.{Layer}
use Rattle.durable_exports.specs.declared.reports.CommandReport.{CommandReport}
use Rattle.durable_exports.specs.declared.seat.Seat.{Seat}
use Rattle.durable_exports.specs.declared.seat.Seat.TheVariants.{Mounting, Mounted, Driving}
use Rattle.durable_exports.specs.Reports.{report_of, no_totals, totals_with}

-- the device of a layer
abbrev pub layer_device : Layer → Device
layer_device l = device_of l.core

-- how many losses the mount of a layer has told
abbrev pub layer_losses : Layer → ℕ
layer_losses l = losses_of l.core

-- the code of a call for a mount, which a layer refuses
abbrev pub code_of_mount : Option Seat → (Mount → ℕ) → ℕ
code_of_mount None code = CLOSED
code_of_mount (Some (Mounting m)) code = code m
code_of_mount (Some (Mounted l)) code = WRONG_KIND
code_of_mount (Some (Driving d)) code = WRONG_KIND

-- the code of a call for a layer, which a mount under way refuses
abbrev pub code_of_layer : Option Seat → (Layer → ℕ) → ℕ
code_of_layer None code = CLOSED
code_of_layer (Some (Mounting m)) code = WRONG_KIND
code_of_layer (Some (Mounted l)) code = code l
code_of_layer (Some (Driving d)) code = WRONG_KIND

-- this holds of the mount under way, if there is one
abbrev pub OfMount : Option Seat → (Mount → Type 0) → Type 0
OfMount None says = Unit {0}
OfMount (Some (Mounting m)) says = says m
OfMount (Some (Mounted l)) says = Unit {0}
OfMount (Some (Driving d)) says = Unit {0}

-- this holds of the layer, if there is one
abbrev pub OfLayer : Option Seat → (Layer → Type 0) → Type 0
OfLayer None says = Unit {0}
OfLayer (Some (Mounting m)) says = Unit {0}
OfLayer (Some (Mounted l)) says = says l
OfLayer (Some (Driving d)) says = Unit {0}

-- there is a mount under way, and this holds of it
abbrev pub HasMount : Option Seat → (Mount → Type 0) → Type 0
HasMount None says = ⊥
HasMount (Some (Mounting m)) says = says m
HasMount (Some (Mounted l)) says = ⊥
HasMount (Some (Driving d)) says = ⊥

-- there is a layer, and this holds of it
abbrev pub HasLayer : Option Seat → (Layer → Type 0) → Type 0
HasLayer None says = ⊥
HasLayer (Some (Mounting m)) says = ⊥
HasLayer (Some (Mounted l)) says = says l
HasLayer (Some (Driving d)) says = ⊥

-- the code of an open: whether the handle is closed, then whether the sectors have room, and then whether there is memory, which no state says
abbrev pub begin_code : Option Seat → Bool → Bool → ℕ
begin_code None has_room no_memory = if has_room then (if no_memory then NO_MEMORY else DONE) else TOO_FEW_BLOCKS
begin_code (Some x) has_room no_memory = ALREADY_OPEN

-- the code of a note, by whether a page is left to be noted and whether its stamp is of the device
abbrev pub note_code : Option PageAddr → Bool → ℕ
note_code None foreign = OUT_OF_ORDER
note_code (Some at) foreign = if foreign then OTHER_DEVICE else DONE

-- the code of a finish: whether a page is left to be noted, then whether no block can be freed, and then whether there is no memory
abbrev pub finish_code : Option PageAddr → Bool → Bool → ℕ
finish_code None no_block no_memory = if no_block then NO_BLOCK else (if no_memory then NO_MEMORY else DONE)
finish_code (Some at) no_block no_memory = OUT_OF_ORDER

-- a mount as it begins: of this device, with the first page to be noted, and 0 as the next number
abbrev pub IsBegun : Device → Mount → Type 0
IsBegun device m =
    (device_in m ≡ device) × (next_in m ≡ Some (record { block = 0; page = 0 })) × (next_number_in m ≡ 0)
    × ((f : Flash) → HasNoted f m)

-- a note that returns this code takes a stamp of the flash's next page, where all versions are of the device
abbrev pub Accepts : Option Stamp → ℕ → Mount → Type 0
Accepts stamp code m = (f : Flash) → IsWrittenOn (device_in m) f → IfSome (next_in m) (λ at. IsStampOf f at.block at.page stamp) → code ≢ OTHER_DEVICE

-- a note that returns this code refuses a stamp that isn't of the device
abbrev pub Refuses : Option Stamp → ℕ → Mount → Type 0
Refuses stamp code m = code ≡ DONE → IsStampOn (device_in m) stamp

-- a mount after the next page's stamp was noted
abbrev pub IsNoted : Option Stamp → Mount → Mount → Type 0
IsNoted stamp m after =
    (device_in after ≡ device_in m) × (next_in after ≡ after_in m)
    × (next_number_in after ≡ number_above (next_number_in m) stamp)
    × ((f : Flash) → HasNoted f m → IfSome (next_in m) (λ at. IsStampOf f at.block at.page stamp) → HasNoted f after)

-- a finish that returns this code frees a block where the flash that was noted can be mounted
abbrev pub FreesBlock : ℕ → Mount → Type 0
FreesBlock code m = (f : Flash) (acked begun : List Update) → HasNoted f m → IsRecoverable f (device_in m) acked begun → code ≢ NO_BLOCK

-- a layer that a mount gave: it is consistent with the flash, and has done nothing yet
abbrev pub IsMounted : Mount → Layer → Type 0
IsMounted m l =
    (layer_device l ≡ device_in m) × (next_number_of l.core ≡ next_number_in m) × Remounts m l.core × (l.totals ≡ no_totals)
    × CountsLosses m l.core × DropsTrims m l.core × TellsLosses m l.core × TellsNoFalseLoss m l.core
    × MountsWhole m l.core

-- the code of a call for a sector of a layer
abbrev pub sector_code : ℕ → ℕ → Layer → ℕ
sector_code s code l = if nat_le (layer_device l).sectors s then NO_SECTOR else code

-- the code of a call for an extent of a layer
abbrev pub extent_code : Extent → ℕ → Layer → ℕ
extent_code e code l = if nat_lt 0 e.count && nat_le (e.first + e.count) (layer_device l).sectors then code else NO_SECTOR

-- the page that was found has the newest version of the sector, if the device has the sector
abbrev pub IsNewestPageOf : ℕ → Option PageAddr → Layer → Type 0
IsNewestPageOf s page l = s < (layer_device l).sectors → (f : Flash) (acked begun : List Update) (consistent : IsConsistent f l.core acked begun)
    → IsMappedTo f s (array_after consistent.updates s) page

-- the report is of the command that comes next for the extent: it may be given to the flash, and a power cut inside it or before it loses nothing
abbrev pub IsCommandFor : Extent → CommandReport → Layer → Type 0
IsCommandFor e out l =
    (command : Command) × (out ≡ report_of e.first command) × (command ≢ Refused)
    × IsNextCommand l.core command × IsSafe l.core command × SurvivesCut l.core e command × SurvivesIdleCut l.core
    × CutsUnharmed l.core e command × CutsIdleUnharmed l.core

-- the command of this report has succeeded for the extent
abbrev pub IsDone : Extent → CommandReport → Layer → Layer → Type 0
IsDone e did l after =
    (command : Command) × (did ≡ report_of e.first command) × IsNextCommand l.core command
    × (layer_device after ≡ layer_device l) × Acknowledges l.core e command after.core
    × (layer_losses after ≡ layer_losses l) × StaysWhole l.core e command after.core
    × (next_number_of after.core ≡ number_after command (next_number_of l.core))
    × Spends command (layer_device l).pages (left l.core) (left after.core)
    × StaysOpen command (layer_device l).pages (next_pages_of after.core)
    × (after.totals ≡ totals_with command l.totals)

-- the code of a retirement, where its sectors are of the device: the command isn't the one that comes next, or the spare block won't do
abbrev pub retire_code : ℕ → ℕ
retire_code code = if code == OUT_OF_ORDER then OUT_OF_ORDER else (if code == NO_BLOCK then NO_BLOCK else DONE)

-- the command of this report has failed for the extent, and the layer goes on with the spare block in its block's stead
abbrev pub GoesOnWithout : Extent → CommandReport → Bool → ℕ → Layer → Layer → Type 0
GoesOnWithout e did left spare l after =
    (command : Command) × (did ≡ report_of e.first command) × IsNextCommand l.core command
    × (layer_device after ≡ layer_device l) × Retires l.core e command left spare after.core
    × RetiresWhole l.core e command left spare after.core × (layer_losses after ≡ layer_losses l)
    × (next_number_of after.core ≡ number_after command (next_number_of l.core)) × (after.totals ≡ l.totals)

-- a retirement that returns this code takes a block that isn't in use and has no version, while numbers are left
abbrev pub TakesSpare : ℕ → ℕ → Layer → Type 0
TakesSpare spare code l = (f : Flash) (acked begun : List Update) → IsConsistent f l.core acked begun → HoldsNoVersion f spare
    → (layer_device l).blocks ≤ spare → spare < (layer_device l).read_blocks → next_number_of l.core + 1 < 2 ^ 64 → code ≢ NO_BLOCK

-- the stamp that a note passes: none with 0, that of a version with 1, and with 2 that of a trim
abbrev pub stamp_of : ℕ → Extent → ℕ → Option Stamp
stamp_of has_version e n = if has_version == 0 then None else Some (record { extent = e; number = n; is_trim = has_version == 2 })
