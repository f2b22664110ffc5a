-- What the faults of a mount say.
use Rattle.std.specs.Prelude.{List, ℕ, codes}
use Rattle.durable.specs.declared.fault.MountFault.{MountFault}
use Rattle.durable.specs.declared.fault.MountFault.TheVariants as fault

-- the text of a fault, as it is printed
abbrev pub mount_fault_text : MountFault → List ℕ
mount_fault_text fault.TooManySectors = codes "the sectors don't fit in all blocks but one"
mount_fault_text fault.ForeignStamp = codes "a stamp is not of this device"
mount_fault_text fault.NoFreeBlock = codes "no block can be freed"
mount_fault_text fault.OutOfMemory = codes "out of memory"
