-- What a layer has of its sectors, whatever its flash holds, and what a call that looks at them tells of it.
use Rattle.std.specs.Prelude.{◌≡◌, ◌<◌, ◌≤◌, ℕ, List, Option, None, Some, Result, Ok, Err, if◌then◌else◌}
use Rattle.geometry.specs.Sectors.{Sector, was_of}
use Rattle.geometry.specs.declared.answer.Got.{Got}
use Rattle.geometry.specs.declared.answer.Was.{Was}
use Rattle.geometry.specs.declared.answer.Was.TheVariants as was
use Rattle.geometry.specs.declared.page_addr.PageAddr.{PageAddr}
use Rattle.durable.specs.Flash.{Flash, PageContents, Erased, Torn, Version}
use Rattle.durable.specs.Memory.{map_entry}
use Rattle.durable.specs.Updates.{Covers, is_covered}
use Rattle.durable.specs.declared.extent.Extent.{Extent}
use Rattle.nand.specs.declared.failure.Failure.{Failure}
use Rattle.nand.specs.declared.failure.Failure.TheVariants as failure
use Rattle.nand.specs.declared.layer.Durable.{Durable}
use Rattle.nand.specs.Numbers.{numbered}
use Rattle.nand.specs.Opened.{ReadsSector}

-- the value that a page has of a sector; none if it has no version of it
abbrev pub value_for : PageContents → ℕ → Option Sector
value_for (Version e n value) s = if is_covered e s then Some value else None
value_for Erased s = None
value_for Torn s = None

-- the value of a sector that the map says to be in this page; where it says no page, the sector is empty
abbrev pub value_at : Flash → Option PageAddr → ℕ → Option Sector
value_at f None s = Some None
value_at f (Some at) s = value_for (f at.block at.page) s

-- the value that the layer has of a sector; none if it is lost: the page that the map has for it has no version of it
abbrev pub stored_value : {N : Type 0} → (N → Flash) → Durable N → ℕ → Option Sector
stored_value {N} flash layer s = value_at (numbered layer.numbers.items (flash layer.nand)) (map_entry layer.core s) s

-- a read returns what the layer has of the sector, and nothing if it is lost
abbrev pub ReadsStored : Option Sector → Got → List ℕ → Type 0
ReadsStored None found out = ⊥
ReadsStored (Some value) found out = ReadsSector value found out

-- the sectors of an extent before this one are there and empty
abbrev pub AreEmptyBefore : (ℕ → Option Sector) → Extent → ℕ → Type 0
AreEmptyBefore has extent k = (j : ℕ) → extent.first ≤ j → j < k → has j ≡ Some None

-- all sectors of an extent are there and empty, or the first that isn't so is there and written
abbrev pub WereStored : (ℕ → Option Sector) → Extent → Was → Type 0
WereStored has extent was.Empty = (k : ℕ) → Covers extent k → has k ≡ Some None
WereStored has extent was.Written =
    (k : ℕ) × Covers extent k × AreEmptyBefore has extent k × (bytes : List ℕ) × (has k ≡ Some (Some bytes))

-- the first sector of an extent that isn't there and empty is lost
abbrev pub HasLostSector : (ℕ → Option Sector) → Extent → Type 0
HasLostSector has extent = (k : ℕ) × Covers extent k × AreEmptyBefore has extent k × (has k ≡ None)

-- a look at the sectors of an extent fails only where one is lost, and if the power is gone or the layer closed
abbrev pub StopsLook : (ℕ → Option Sector) → Extent → Failure → Type 0
StopsLook has extent failure.Lost = HasLostSector has extent
StopsLook has extent failure.PowerGone = Unit {0}
StopsLook has extent failure.Closed = Unit {0}
StopsLook has extent failure.Failed = ⊥
StopsLook has extent failure.NoNumber = ⊥
StopsLook has extent failure.Written = ⊥

-- what a look at the sectors of an extent tells
abbrev pub TellsStored : (ℕ → Option Sector) → Extent → Result Was Failure → Type 0
TellsStored has extent (Ok found) = WereStored has extent found
TellsStored has extent (Err cause) = StopsLook has extent cause

-- a call that looks at the sectors of an extent first, and updates them if it finds them so, fails as its look does, or as its update
abbrev pub StopsUpdate : Was → (ℕ → Option Sector) → Extent → Failure → Type 0
StopsUpdate wanted has extent failure.Lost = HasLostSector has extent
StopsUpdate wanted has extent failure.PowerGone = Unit {0}
StopsUpdate wanted has extent failure.Closed = Unit {0}
StopsUpdate wanted has extent failure.Failed = WereStored has extent wanted
StopsUpdate wanted has extent failure.NoNumber = WereStored has extent wanted
StopsUpdate wanted has extent failure.Written = WereStored has extent was.Written

-- what is told of a sector that has this value
abbrev pub told_of : Option Sector → Result Was Failure
told_of None = Err failure.Lost
told_of (Some value) = Ok (was_of value)
