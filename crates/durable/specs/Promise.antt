-- The promise: no acknowledged update is lost, whatever command a power cut falls in.
use Rattle.std.specs.Prelude.{ℕ, List}
use Rattle.durable.specs.Updates.{Update, array_after, IsSubsequence}
use Rattle.durable.specs.Flash.{Flash, Recovers}
use Rattle.durable.specs.Device.{Device, device_of, IsWrittenOn}
use Rattle.durable.specs.Memory.{Represents}
use Rattle.durable.specs.Spare.{CanFree, LeavesSpare}
use Rattle.durable.specs.declared.memory.Core.{Core}

-- a mount reads the array after some updates: each acknowledged one is among them, and each of them was begun, in order
pub record KeepsAcknowledged (f : Flash) (sectors : ℕ) (acknowledged begun : List Update) : Type 0 where
  pub updates : List Update
  pub includes : IsSubsequence acknowledged updates
  pub included : IsSubsequence updates begun
  pub recovers : Recovers f sectors (array_after updates)

-- a flash that can be read: it keeps each acknowledged update, and has versions of this device alone
pub record IsReadable (f : Flash) (device : Device) (acknowledged begun : List Update) : Type 0 where
  pub keeps : KeepsAcknowledged f device.sectors acknowledged begun
  pub written : IsWrittenOn device f

-- a flash that can be mounted: it can be read, and a block of it can be freed
pub record IsRecoverable (f : Flash) (device : Device) (acknowledged begun : List Update) : Type 0 where
  pub keeps : KeepsAcknowledged f device.sectors acknowledged begun
  pub written : IsWrittenOn device f
  pub spare : CanFree f device.blocks device.sectors

-- a flash and the layer that runs on it: the map says where the array is, and a flash that a power cut leaves can be mounted
pub record IsConsistent (f : Flash) (core : Core) (acknowledged begun : List Update) : Type 0 where
  pub updates : List Update
  pub includes : IsSubsequence acknowledged updates
  pub included : IsSubsequence updates begun
  pub represents : Represents f core (array_after updates)
  pub written : IsWrittenOn (device_of core) f
  pub spare : LeavesSpare f core
