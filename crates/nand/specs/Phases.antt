-- What a driver's memory has of the call that is under way.
use Rattle.std.specs.Prelude.{◌≢◌}
use Rattle.durable.specs.Choice.{IsNextCommand}
use Rattle.durable.specs.Device.{device_of}
use Rattle.durable.specs.Updates.{LiesWithin}
use Rattle.durable.specs.declared.command.Command.TheVariants.{Program, Refused}
use Rattle.durable.specs.declared.extent.Extent.{Extent}
use Rattle.durable.specs.declared.memory.Core.{Core}
use Rattle.nand.specs.declared.driver.Phase.{Phase}
use Rattle.nand.specs.declared.driver.Phase.TheVariants as phase

-- the extent has sectors, and the device has all of them
abbrev pub IsOfDevice : Core → Extent → Type 0
IsOfDevice core extent = LiesWithin (device_of core).sectors extent

-- the sectors are the device's, and the command is the next one of the layer
abbrev pub IsPhaseOf : Core → Phase → Type 0
IsPhaseOf core phase.Idle = Unit {0}
IsPhaseOf core (phase.Perform command job) = IsOfDevice core job.extent × IsNextCommand core command × (command ≢ Refused)
IsPhaseOf core (phase.Look at number job) = IsOfDevice core job.extent × IsNextCommand core (Program at number)
IsPhaseOf core (phase.Fetch from extent) = IsOfDevice core extent
IsPhaseOf core (phase.Mark extent) = IsOfDevice core extent
IsPhaseOf core phase.ReadOnly = Unit {0}
IsPhaseOf core phase.Closed = Unit {0}
