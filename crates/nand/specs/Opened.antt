-- What an open layer holds, and what a call that was cut short leaves.
use Rattle.std.specs.Prelude.{◌≡◌, ◌≢◌, ◌⊎◌, ◌<◌, ◌≤◌, ◌+◌, ◌-◌, ◌%◌, ◌^◌, ℕ, Bool, true, false, List, ◌∷◌, None, Some, min}
use Rattle.geometry.specs.Sectors.{Sector, was_of}
use Rattle.geometry.specs.declared.answer.Got.{Got}
use Rattle.geometry.specs.declared.answer.Got.TheVariants as got
use Rattle.geometry.specs.declared.answer.Was.{Was}
use Rattle.geometry.specs.declared.answer.Was.TheVariants as was
use Rattle.durable.specs.Collecting.{HasCapacity}
use Rattle.durable.specs.Failures.{HoldsNoVersion}
use Rattle.durable.specs.Flash.{Flash, Version}
use Rattle.durable.specs.Device.{Device, device_of, losses_of, next_number_of}
use Rattle.durable.specs.Promise.{IsConsistent, IsReadable}
use Rattle.durable.specs.Spare.{IsDuplicated}
use Rattle.durable.specs.Updates.{Covers, Update}
use Rattle.durable.specs.declared.extent.Extent.{Extent}
use Rattle.nand.specs.declared.flash.Fault.{Fault}
use Rattle.nand.specs.declared.flash.Fault.TheVariants as fault
use Rattle.nand.specs.declared.flash.Shape.{Shape}
use Rattle.nand.specs.declared.failure.Failure.{Failure}
use Rattle.nand.specs.declared.failure.Failure.TheVariants as failure
use Rattle.nand.specs.declared.layer.Durable.{Durable}
use Rattle.nand.specs.Numbers.{IsInReserve, IsInUse, IsOrder, good_before, is_marked, most_in_use, numbered}

-- the sizes of a device on a chip of which so many blocks are in use
abbrev pub device_using : ℕ → Shape → ℕ → Device
device_using used shape sectors = record { blocks = used; read_blocks = shape.blocks; pages = shape.pages; sectors = sectors }

-- how many good blocks are in use at most
abbrev pub most_used : Shape → ℕ → ℕ
most_used shape sectors = most_in_use shape.blocks shape.spare_blocks shape.pages sectors

-- how many are
abbrev pub used_blocks : Shape → List Bool → ℕ → ℕ
used_blocks shape bad sectors = min (good_before bad shape.blocks) (most_used shape sectors)

-- the sizes of a device on a chip with these bad blocks
abbrev pub device_on : Shape → List Bool → ℕ → Device
device_on shape bad sectors = device_using (used_blocks shape bad sectors) shape sectors

-- how many sectors the layer has
abbrev pub layer_sectors : {N : Type 0} → Durable N → ℕ
layer_sectors {N} layer = (device_of layer.core).sectors

-- the number of the next version
abbrev pub number_of : {N : Type 0} → Durable N → ℕ
number_of {N} layer = next_number_of layer.core

-- the number of each version is below this one
abbrev pub NumbersBelow : Flash → ℕ → Type 0
NumbersBelow f n = (b p : ℕ) (e : Extent) (m : ℕ) (v : Sector) → f b p ≡ Version e m v → m < n

-- so many blocks may go bad yet: the chip has as many spare ones beside those that are bad, and the sectors fit in the other good ones
abbrev pub CanSpare : Shape → List Bool → ℕ → ℕ → Type 0
CanSpare shape bad sectors failures =
    let good = good_before bad shape.blocks in
    (failures + shape.blocks ≤ shape.spare_blocks + good) × HasCapacity sectors (good - failures) shape.pages

-- an update of an extent's sectors
abbrev pub update_of : Extent → Sector → Update
update_of extent value = record { extent = extent; value = value }

-- a block in use can be freed, since all of its newest versions that are needed are elsewhere too
abbrev pub CanFreeInUse : Flash → Shape → List Bool → ℕ → Type 0
CanFreeInUse f shape bad sectors = (b : ℕ) × (b < shape.blocks) × IsInUse bad (most_used shape sectors) b × IsDuplicated f sectors b

-- no block of the reserve has a version
abbrev pub IsReserveBlank : Flash → Shape → List Bool → ℕ → Type 0
IsReserveBlank f shape bad sectors = (b : ℕ) → b < shape.blocks → IsInReserve bad (most_used shape sectors) b → HoldsNoVersion f b

-- such a chip can be opened, and a mount finds the array after these updates, the newest first
pub record IsOpenable (f : Flash) (shape : Shape) (bad : List Bool) (sectors : ℕ) (updates : List Update) : Type 0 where
  pub readable : IsReadable f (device_on shape bad sectors) updates updates
  pub frees : CanFreeInUse f shape bad sectors
  pub blank : IsReserveBlank f shape bad sectors

-- the same of this chip
abbrev pub CanOpen : {N : Type 0} → (N → Flash) → (N → Shape) → (N → List Bool) → N → ℕ → List Update → Type 0
CanOpen {N} flash shape bad nand sectors updates = IsOpenable (flash nand) (shape nand) (bad nand) sectors updates

-- how many blocks the layer has in reserve
abbrev pub reserve_of : {N : Type 0} → Durable N → ℕ
reserve_of {N} layer = layer.good - (device_of layer.core).blocks

-- the layer is open, uses no bad block and none of the reserve, and holds the array after these updates, the newest first
pub record IsOpenLayer {N : Type 0} (flash : N → Flash) (shape : N → Shape) (bad : N → List Bool) (layer : Durable N) (updates : List Update)
    : Type 0 where
  pub mounted : layer.mounted ≡ true
  pub order : IsOrder layer.numbers.items (bad layer.nand) (shape layer.nand).blocks (most_used (shape layer.nand) (layer_sectors layer))
  pub device : device_of layer.core ≡ device_on (shape layer.nand) (bad layer.nand) (layer_sectors layer)
  pub good : layer.good ≡ good_before (bad layer.nand) (shape layer.nand).blocks
  pub blank : IsReserveBlank (flash layer.nand) (shape layer.nand) (bad layer.nand) (layer_sectors layer)
  pub consistent : IsConsistent (numbered layer.numbers.items (flash layer.nand)) layer.core updates updates

-- a command of the layer has failed, and its chip was not opened again
abbrev pub IsUnmounted : {N : Type 0} → Durable N → Type 0
IsUnmounted {N} layer = layer.mounted ≡ false

-- the layer has as many sectors as before, and the same next number, and its chip is as large and has the same bad blocks
pub record IsSameDevice {N : Type 0} (shape : N → Shape) (bad : N → List Bool) (old new : Durable N) : Type 0 where
  pub sectors : layer_sectors new ≡ layer_sectors old
  pub number : number_of new ≡ number_of old
  pub chip : shape new.nand ≡ shape old.nand
  pub marks : bad new.nand ≡ bad old.nand

-- the layer has as many sectors as before, gives no number again, and tells as many losses, and its chip is as large; a mark stays, and there are more
-- only if a command has failed
pub record KeepsDevice {N : Type 0} (shape : N → Shape) (bad : N → List Bool) (faults : N → Fault → ℕ) (old new : Durable N) : Type 0 where
  pub sectors : layer_sectors new ≡ layer_sectors old
  pub number : number_of old ≤ number_of new
  pub losses : losses_of new.core ≡ losses_of old.core
  pub chip : shape new.nand ≡ shape old.nand
  pub marks : (b : ℕ) → is_marked (bad old.nand) b ≡ true → is_marked (bad new.nand) b ≡ true
  pub same : faults new.nand fault.Failed ≡ faults old.nand fault.Failed → bad new.nand ≡ bad old.nand

-- how many blocks were marked bad
abbrev pub marked_blocks : {N : Type 0} → (N → Shape) → (N → List Bool) → Durable N → Durable N → ℕ
marked_blocks {N} shape bad old new =
    good_before (bad old.nand) (shape old.nand).blocks - good_before (bad new.nand) (shape old.nand).blocks

-- so many blocks were marked as commands have failed, modulo 2^64
abbrev pub HasMarkedFailed : {N : Type 0} → (N → Shape) → (N → List Bool) → (N → Fault → ℕ) → Durable N → Durable N → Type 0
HasMarkedFailed {N} shape bad faults old new =
    faults new.nand fault.Failed % 2 ^ 64 ≡ (faults old.nand fault.Failed + marked_blocks shape bad old new) % 2 ^ 64

-- if the layer was open, so many blocks were marked as commands have failed, modulo 2^64
abbrev pub MarksFailed : {N : Type 0} → (N → Flash) → (N → Shape) → (N → List Bool) → (N → Fault → ℕ) → Durable N → Durable N → Type 0
MarksFailed flash shape bad faults old new =
    (updates : List Update) → IsOpenLayer flash shape bad old updates → HasMarkedFailed shape bad faults old new

-- the call is refused, and the array stays as it was
abbrev pub IsRefusal : Failure → Type 0
IsRefusal failure.PowerGone = ⊥
IsRefusal failure.Failed = ⊥
IsRefusal failure.Closed = ⊥
IsRefusal failure.NoNumber = Unit {0}
IsRefusal failure.Written = Unit {0}
IsRefusal failure.Lost = ⊥

-- no block is in reserve, or the numbers have run out
abbrev pub IsSpent : Shape → List Bool → ℕ → ℕ → Type 0
IsSpent shape bad sectors number = (good_before bad shape.blocks ≤ most_used shape sectors) ⊎ (2 ^ 64 ≤ number + 1)

-- an update that failed: the chip can be opened, with the array from before it or the one from after it; after a refusal the layer holds
-- the array from before it; otherwise it holds that, or it is closed. A failed command is told only where the layer has nothing to go on with
pub record Fails {N : Type 0} (flash : N → Flash) (shape : N → Shape) (bad : N → List Bool) (old new : Durable N) (update : Update)
    (updates : List Update) (cause : Failure) : Type 0 where
  pub reopens : CanOpen flash shape bad new.nand (layer_sectors old) updates ⊎ CanOpen flash shape bad new.nand (layer_sectors old) (update ∷ updates)
  pub refused : IsRefusal cause → IsOpenLayer flash shape bad new updates
  pub stays : IsOpenLayer flash shape bad new updates ⊎ IsUnmounted new
  pub readable : cause ≢ failure.Lost
  pub spent : cause ≡ failure.Failed → IsSpent (shape new.nand) (bad new.nand) (layer_sectors old) (number_of new)

-- the cause that a call tells is the true one: the chip has counted the fault, the layer was closed, or the numbers have run out
abbrev pub IsTrueCause : {N : Type 0} → (N → Fault → ℕ) → Durable N → Durable N → Failure → Type 0
IsTrueCause {N} faults old new failure.PowerGone = faults new.nand fault.PowerGone ≢ faults old.nand fault.PowerGone
IsTrueCause {N} faults old new failure.Failed = faults new.nand fault.Failed ≢ faults old.nand fault.Failed
IsTrueCause {N} faults old new failure.Closed = IsUnmounted old
IsTrueCause {N} faults old new failure.NoNumber = 2 ^ 64 ≤ number_of old + 1
IsTrueCause {N} faults old new failure.Written = Unit {0}
IsTrueCause {N} faults old new failure.Lost = Unit {0}

-- an update of an open layer with such an array has failed for a true cause: the power went, a command failed, or the numbers had run out
pub record HasFailed {N : Type 0} (flash : N → Flash) (shape : N → Shape) (bad : N → List Bool) (faults : N → Fault → ℕ) (update : Update)
    (updates : List Update) : Type 0 where
  pub old : Durable N
  pub new : Durable N
  pub cause : Failure
  pub holds : IsOpenLayer flash shape bad old updates
  pub fails : Fails flash shape bad old new update updates cause
  pub true : IsTrueCause faults old new cause
  pub written : cause ≢ failure.Written

-- what a read returns: that the sector is empty, or its bytes
abbrev pub ReadsSector : Sector → Got → List ℕ → Type 0
ReadsSector None found out = found ≡ got.Empty
ReadsSector (Some bytes) found out = (found ≡ got.Data) × (out ≡ bytes)

-- what the sectors of an extent were: written if one of them was, and otherwise empty
abbrev pub Were : (ℕ → Sector) → Extent → Was → Type 0
Were array extent was.Empty = (k : ℕ) → Covers extent k → was_of (array k) ≡ was.Empty
Were array extent was.Written = (k : ℕ) × Covers extent k × (was_of (array k) ≡ was.Written)
