-- What stands between the flash and the layer's memory so that no loss is told of a flash that has lost no page.
use Rattle.std.specs.Prelude.{◌≡◌, ◌≢◌, ◌⊎◌, ◌<◌, ℕ, Bool, List, [], ◌∷◌, length, Option, None, Some}
use Rattle.geometry.specs.Sectors.{Sector}
use Rattle.geometry.specs.declared.page_addr.PageAddr.{PageAddr}
use Rattle.durable.specs.Flash.{Flash, HoldsNeeded, HoldsNewest, IsErased}
use Rattle.durable.specs.Updates.{Update}
use Rattle.durable.specs.declared.extent.Extent.{Extent}
use Rattle.durable.specs.Device.{Device, device_of, device_in, losses_of}
use Rattle.durable.specs.Collecting.{IsOpenAt}
use Rattle.durable.specs.Next.{HasFree}
use Rattle.durable.specs.Commands.{Completes, CutLeaves}
use Rattle.durable.specs.Losses.{IsGapless, HasNoLoss, version_count}
use Rattle.durable.specs.Memory.{map_entry}
use Rattle.durable.specs.Promise.{IsReadable, IsConsistent}
use Rattle.durable.specs.Calls.{Acknowledges, HasNoted, Remounts, SurvivesCut}
use Rattle.durable.specs.Failures.{HasVersionlessBlock, IsRenumbered, IsSameFlashOf}
use Rattle.durable.specs.Retiring.{IsRetired, Retires}
use Rattle.durable.specs.Runs.{Event, Completed, Failed, Retired, CutInside, CutBetween}
use Rattle.durable.specs.declared.command.Command.{Command}
use Rattle.durable.specs.declared.memory.Core.{Core}
use Rattle.durable.specs.declared.mount.Mount.{Mount}
use Rattle.durable.specs.declared.next_pages.NextPages.{NextPages}

-- each newest version in the block that is needed is in another block too, which has no gap
abbrev pub IsSafelyDuplicated : Flash → ℕ → ℕ → Type 0
IsSafelyDuplicated f sectors b = (s p : ℕ) (v : Sector) → s < sectors → HoldsNeeded f s v b p
    → (d : ℕ) × (q : ℕ) × (w : Sector) × (d ≢ b) × IsGapless f d × HoldsNewest f s w d q

-- no page of the flash was lost: each newest version that is needed is in a block without a gap, and a mount can free a block that needs no others
pub record IsUnharmed (f : Flash) (device : Device) : Type 0 where
  pub no_loss : HasNoLoss f device.sectors
  pub spare : (b : ℕ) × (b < device.blocks) × IsSafelyDuplicated f device.sectors b

-- each open block has a version in each page before its next one
abbrev pub AreFullBefore : Flash → NextPages → Type 0
AreFullBefore f next = (at : PageAddr) → IsOpenAt next at → (p : ℕ) → p < at.page → version_count (f at.block p) ≡ 1

-- a closed block is free; or only that of copies is open, and has nothing else, of pages in blocks without a gap
abbrev pub IsSafelySpared : Flash → List (Option PageAddr) → ℕ → NextPages → Type 0
IsSafelySpared f map blocks next = HasFree blocks map next ⊎ ((to : PageAddr)
    × (next.hosts ≡ None) × (next.copies ≡ Some to) × (to.block < blocks) × IsSafelyDuplicated f (length map) to.block)

-- the layer keeps nothing in a block that has a gap
pub record KeepsWhole (f : Flash) (core : Core) : Type 0 where
  pub mapped : (s : ℕ) (at : PageAddr) → s < length core.map.items → map_entry core s ≡ Some at → IsGapless f at.block
  pub full : AreFullBefore f core.next_pages
  pub spared : IsSafelySpared f core.map.items core.blocks core.next_pages

-- whatever a power cut inside the command leaves has lost no page
abbrev pub CutsUnharmed : Core → Extent → Command → Type 0
CutsUnharmed core extent command = (f t : Flash) (value : Sector) (acked begun : List Update) → IsConsistent f core acked begun → KeepsWhole f core
    → CutLeaves command extent value f t → IsUnharmed t (device_of core)

-- nor has what one between two commands leaves
abbrev pub CutsIdleUnharmed : Core → Type 0
CutsIdleUnharmed core = (f : Flash) (acked begun : List Update) → IsConsistent f core acked begun → KeepsWhole f core → IsUnharmed f (device_of core)

-- after the command has succeeded the layer still keeps nothing in a block that has a gap
abbrev pub StaysWhole : Core → Extent → Command → Core → Type 0
StaysWhole old extent command new = (f t : Flash) (value : Sector) (acked begun : List Update) → IsConsistent f old acked begun → KeepsWhole f old
    → Completes command extent value f t → KeepsWhole t new

-- nor does it keep anything there after a command has failed and its block has left the use
abbrev pub RetiresWhole : Core → Extent → Command → Bool → ℕ → Core → Type 0
RetiresWhole old extent command left spare new = (f t : Flash) (value : Sector) (acked begun : List Update) → IsConsistent f old acked begun
    → KeepsWhole f old → IsRetired f t extent command left spare value → KeepsWhole t new

-- a mount of a flash that has lost no page tells no loss, and the layer keeps nothing in a block that has a gap
abbrev pub MountsWhole : Mount → Core → Type 0
MountsWhole mount core = (f : Flash) (acked begun : List Update) → HasNoted f mount → IsReadable f (device_in mount) acked begun
    → IsUnharmed f (device_in mount) → KeepsWhole f core × (core.losses ≡ 0)

-- a mount of this flash gave the layer, as `Mount::finish` ensures
abbrev pub IsMountedWhole : Flash → Core → Type 0
IsMountedWhole f core = (mount : Mount) × HasNoted f mount × (device_of core ≡ device_in mount) × Remounts mount core × MountsWhole mount core

-- what an event does to the flash and to the layer, as in `Happens`, with what the calls ensure of losses. After a command that fails a block without
-- versions comes in use, such as one in reserve
abbrev pub HappensWhole : Event → Flash → Core → Flash → Core → Type 0
HappensWhole (Completed update command) f old t new =
    Completes command update.extent update.value f t × Acknowledges old update.extent command new × (device_of new ≡ device_of old)
    × StaysWhole old update.extent command new × (losses_of new ≡ losses_of old)
HappensWhole (Failed update command) f old t new =
    (left : Flash) × SurvivesCut old update.extent command × CutLeaves command update.extent update.value f left
    × IsRenumbered left t (device_of old).read_blocks × IsMountedWhole t new × IsSameFlashOf (device_of old) (device_of new)
    × CutsUnharmed old update.extent command × HasVersionlessBlock t (device_of new)
HappensWhole (Retired update command) f old t new =
    (left : Bool) × (spare : ℕ) × IsRetired f t update.extent command left spare update.value × Retires old update.extent command left spare new
    × (device_of new ≡ device_of old) × RetiresWhole old update.extent command left spare new × (losses_of new ≡ losses_of old)
HappensWhole (CutInside update command) f old t new =
    SurvivesCut old update.extent command × CutLeaves command update.extent update.value f t × IsMountedWhole t new × (device_of new ≡ device_of old)
    × CutsUnharmed old update.extent command
HappensWhole CutBetween f old t new = (t ≡ f) × IsMountedWhole t new × (device_of new ≡ device_of old) × CutsIdleUnharmed old

-- a run from the first mount of an erased flash, its newest event first, in which no page is lost
abbrev pub RunsWhole : List Event → Flash → Core → Type 0
RunsWhole [] f core = IsErased f × IsMountedWhole f core
RunsWhole (event ∷ events) t new = (f : Flash) × (old : Core) × RunsWhole events f old × HappensWhole event f old t new
