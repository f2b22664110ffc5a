-- What the public calls keep of the promise.
use Rattle.std.specs.Prelude.{◌≡◌, ◌<◌, ℕ, List, ◌∷◌, length, Option, None, slice_index_or}
use Rattle.geometry.specs.Sectors.{Sector}
use Rattle.durable.specs.declared.extent.Extent.{Extent}
use Rattle.durable.specs.Updates.{Update}
use Rattle.durable.specs.Flash.{Flash, HoldsNoValue}
use Rattle.durable.specs.Commands.{Completes, CutLeaves, IsAllowed, updates_with}
use Rattle.durable.specs.Device.{device_of, device_in, losses_of, IsWrittenOn, NamesOn}
use Rattle.durable.specs.Memory.{map_entry}
use Rattle.durable.specs.Mounting.{AreOfDevice, FoundBefore, TellsValues}
use Rattle.durable.specs.Candidates.{AreNeeded}
use Rattle.durable.specs.Losses.{CountsGaps, IsPreferred, HasNoLoss, losses_in}
use Rattle.durable.specs.Promise.{IsReadable, IsRecoverable, IsConsistent}
use Rattle.durable.specs.declared.command.Command.{Command}
use Rattle.durable.specs.declared.found.Candidate.{Candidate}
use Rattle.durable.specs.declared.memory.Core.{Core}
use Rattle.durable.specs.declared.mount.Mount.{Mount}

-- the command may be given to the flash: it names what lies on the device, and programs only an erased page
abbrev pub IsSafe : Core → Command → Type 0
IsSafe core command = (f : Flash) (acked begun : List Update) → IsConsistent f core acked begun → NamesOn (device_of core) command × IsAllowed f command

-- whatever a power cut inside the command leaves can be mounted, with the update begun
abbrev pub SurvivesCut : Core → Extent → Command → Type 0
SurvivesCut core extent command = (f t : Flash) (value : Sector) (acked begun : List Update) → IsConsistent f core acked begun
    → CutLeaves command extent value f t → IsRecoverable t (device_of core) acked (record { extent = extent; value = value } ∷ begun)

-- a power cut between two commands leaves a flash that can be mounted
abbrev pub SurvivesIdleCut : Core → Type 0
SurvivesIdleCut core = (f : Flash) (acked begun : List Update) → IsConsistent f core acked begun → IsRecoverable f (device_of core) acked begun

-- after the command has succeeded, flash and layer are consistent again; its program acknowledges the update
abbrev pub Acknowledges : Core → Extent → Command → Core → Type 0
Acknowledges old extent command new = (f t : Flash) (value : Sector) (acked begun : List Update) → IsConsistent f old acked begun
    → Completes command extent value f t
    → let update : Update = record { extent = extent; value = value } in IsConsistent t new (updates_with command update acked) (updates_with command
    update begun)

-- the stamps that were noted are those of the flash's pages, block by block, and of the device; their gaps were counted, and their values marked
pub record HasNoted (f : Flash) (mount : Mount) : Type 0 where
  pub finds : FoundBefore f mount.pages mount.block mount.page mount.found.items mount.next_number
  pub own : AreOfDevice f mount.pages mount.block mount.page (length mount.found.items)
  pub values : TellsValues f mount.pages mount.block mount.page (length mount.found.items) mount.valued.items
  pub counts : CountsGaps f mount.pages mount.block mount.page mount.gaps.items mount.versions
  pub prefers : (s : ℕ) → s < length mount.found.items
      → IsPreferred f mount.pages mount.block mount.page mount.gaps.items s (slice_index_or mount.found.items s None)

-- the layer that a mount gives is consistent with the flash, and keeps each acknowledged update
abbrev pub Remounts : Mount → Core → Type 0
Remounts mount core = (f : Flash) (acked begun : List Update) → HasNoted f mount → IsReadable f (device_in mount) acked begun
    → IsConsistent f core acked begun

-- a mount keeps no page for a sector that no page has a value of
abbrev pub DropsTrims : Mount → Core → Type 0
DropsTrims mount core = (f : Flash) → HasNoted f mount → (s : ℕ) → s < (device_in mount).sectors → HoldsNoValue f s → map_entry core s ≡ None

-- the losses that it tells are the gaps in blocks that have a page of what is kept
abbrev pub CountsLosses : Mount → Core → Type 0
CountsLosses mount core = (kept : List (Option Candidate)) × AreNeeded mount.valued.items mount.found.items kept
    × (losses_of core ≡ losses_in kept mount.gaps.items mount.read_blocks)

-- a mount that tells no loss has found each newest version that is needed in a block without a gap
abbrev pub TellsLosses : Mount → Core → Type 0
TellsLosses mount core = (f : Flash) → HasNoted f mount → IsWrittenOn (device_in mount) f → core.losses ≡ 0 → HasNoLoss f (device_in mount).sectors

-- a mount tells no loss where each newest version that is needed is in a block without a gap
abbrev pub TellsNoFalseLoss : Mount → Core → Type 0
TellsNoFalseLoss mount core = (f : Flash) (acked begun : List Update) → HasNoted f mount → IsReadable f (device_in mount) acked begun
    → HasNoLoss f (device_in mount).sectors → core.losses ≡ 0
