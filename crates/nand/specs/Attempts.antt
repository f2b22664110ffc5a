-- What an attempt to update a sector leaves that came to no end.
use Rattle.std.specs.Prelude.{◌≡◌, ◌≢◌, ℕ, Bool, false, List, ◌∷◌, Result, Ok, Err}
use Rattle.durable.specs.Choice.{IsNextCommand}
use Rattle.durable.specs.Commands.{CutLeaves}
use Rattle.durable.specs.Device.{device_of}
use Rattle.durable.specs.Flash.{Flash}
use Rattle.durable.specs.Promise.{IsConsistent, IsRecoverable}
use Rattle.durable.specs.Updates.{Makes, Update}
use Rattle.durable.specs.declared.command.Command.{Command}
use Rattle.durable.specs.declared.command.Command.TheVariants.{Refused}
use Rattle.nand.specs.declared.flash.Fault.{Fault}
use Rattle.nand.specs.declared.flash.Shape.{Shape}
use Rattle.nand.specs.declared.flash.Tally.{Tally}
use Rattle.nand.specs.declared.layer.Durable.{Durable}
use Rattle.nand.specs.declared.updating.Stop.{Stop}
use Rattle.nand.specs.declared.updating.Stop.TheVariants as stop
use Rattle.nand.specs.Nand.{CountsOne}
use Rattle.nand.specs.Numbers.{IsOrder, good_before, numbered}
use Rattle.nand.specs.Programs.{TalliesMoves, TalliesOnce}
use Rattle.nand.specs.Opened.{CanOpen, IsOpenLayer, IsReserveBlank, IsUnmounted, device_on, layer_sectors, most_used}

-- a command for this update was cut short, on a flash that the layer knew. What it has left can be mounted
pub record IsCutShort {N : Type 0} (flash : N → Flash) (shape : N → Shape) (bad : N → List Bool) (layer : Durable N) (update : Update) (command : Command)
    (updates : List Update) : Type 0 where
  pub closed : IsUnmounted layer
  pub order : IsOrder layer.numbers.items (bad layer.nand) (shape layer.nand).blocks (most_used (shape layer.nand) (layer_sectors layer))
  pub device : device_of layer.core ≡ device_on (shape layer.nand) (bad layer.nand) (layer_sectors layer)
  pub good : layer.good ≡ good_before (bad layer.nand) (shape layer.nand).blocks
  pub before : Flash
  pub blank_before : IsReserveBlank before (shape layer.nand) (bad layer.nand) (layer_sectors layer)
  pub known : IsConsistent (numbered layer.numbers.items before) layer.core updates updates
  pub next : IsNextCommand layer.core command
  pub some : command ≢ Refused
  pub cut : CutLeaves command update.extent update.value (numbered layer.numbers.items before) (numbered layer.numbers.items (flash layer.nand))
  pub blank : IsReserveBlank (flash layer.nand) (shape layer.nand) (bad layer.nand) (layer_sectors layer)
  pub recovers : IsRecoverable (numbered layer.numbers.items (flash layer.nand)) (device_on (shape layer.nand) (bad layer.nand) (layer_sectors layer))
      updates (update ∷ updates)

-- the layer is open, with the update or without it
abbrev pub IsOpenAgain : {N : Type 0} → (N → Flash) → (N → Shape) → (N → List Bool) → Durable N → Update → List Update → Type 0
IsOpenAgain {N} flash shape bad layer update updates =
    (after : List Update) × Makes false update updates after × IsOpenLayer flash shape bad layer after

-- the chip can be opened, with the update or without it
abbrev pub Reopens : {N : Type 0} → (N → Flash) → (N → Shape) → (N → List Bool) → N → ℕ → Update → List Update → Type 0
Reopens {N} flash shape bad nand sectors update updates =
    (after : List Update) × Makes false update updates after × CanOpen flash shape bad nand sectors after

-- with no number left the layer is open as before; a fault cuts a command short
abbrev pub Leaves : {N : Type 0} → (N → Flash) → (N → Shape) → (N → List Bool) → Durable N → Update → List Update → Stop → Type 0
Leaves {N} flash shape bad layer update updates stop.NoNumber = IsOpenLayer flash shape bad layer updates
Leaves {N} flash shape bad layer update updates (stop.Fault cause command) = IsCutShort flash shape bad layer update command updates

-- an attempt programs once, or not at all if it comes to no end
abbrev pub TalliesAttempt : {T : Type 0} → Tally → Tally → ℕ → Result T Stop → Type 0
TalliesAttempt {T} before now pages (Ok value) = TalliesOnce before now 1 pages
TalliesAttempt {T} before now pages (Err stop) = (now.programs ≡ before.programs) × TalliesMoves before now 1 pages

-- a fault is counted, and nothing else is
abbrev pub CountsStop : {T : Type 0} → (Fault → ℕ) → (Fault → ℕ) → Result T Stop → Type 0
CountsStop {T} before now (Ok value) = (cause : Fault) → now cause ≡ before cause
CountsStop {T} before now (Err stop.NoNumber) = (cause : Fault) → now cause ≡ before cause
CountsStop {T} before now (Err (stop.Fault cause command)) = CountsOne before now cause

-- a fault is told of the command that comes next
abbrev pub StopsAt : {N T : Type 0} → Durable N → Result T Stop → Type 0
StopsAt {N} {T} layer (Ok value) = Unit {0}
StopsAt {N} {T} layer (Err stop.NoNumber) = Unit {0}
StopsAt {N} {T} layer (Err (stop.Fault cause command)) = IsNextCommand layer.core command
