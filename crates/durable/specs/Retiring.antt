-- A block whose command has failed leaves the use. A block that isn't in use takes its number, and comes in use in its stead.
use Rattle.std.specs.Prelude.{◌≡◌, ◌≢◌, ◌+◌, ℕ, Bool, true, false, List, length, Option, None, Some, slice_index_or}
use Rattle.geometry.specs.Sectors.{Sector}
use Rattle.geometry.specs.declared.page_addr.PageAddr.{PageAddr}
use Rattle.durable.specs.declared.extent.Extent.{Extent}
use Rattle.durable.specs.Updates.{Update}
use Rattle.durable.specs.Flash.{Version, Flash}
use Rattle.durable.specs.Collecting.{MapsAll}
use Rattle.durable.specs.Commands.{CutLeaves, updates_with}
use Rattle.durable.specs.Failures.{Changes, IsSwapped, swapped}
use Rattle.durable.specs.Promise.{IsConsistent}
use Rattle.durable.specs.declared.command.Command.{Command}
use Rattle.durable.specs.declared.command.Command.TheVariants.{Program, Copy, Erase, Refused}
use Rattle.durable.specs.declared.memory.Core.{Core}

-- whether a program that failed has left a version in its page
abbrev pub HasLeftVersion : Flash → Command → Bool → Type 0
HasLeftVersion f (Program at n) true = (e : Extent) × (m : ℕ) × (v : Sector) × (f at.block at.page ≡ Version e m v)
HasLeftVersion f (Program at n) false = (e : Extent) (m : ℕ) (v : Sector) → f at.block at.page ≢ Version e m v
HasLeftVersion f (Copy k from to) is = Unit {0}
HasLeftVersion f (Erase b) is = Unit {0}
HasLeftVersion f Refused is = Unit {0}

-- the updates, the newest first, after a command for this one has failed: a program that has left its version has made it
abbrev pub updates_left : Bool → Command → Update → List Update → List Update
updates_left true command update was = updates_with command update was
updates_left false command update was = was

-- the flash after a command has failed, once its block and the spare one have changed their numbers
pub record IsRetired (f t : Flash) (extent : Extent) (command : Command) (left : Bool) (spare : ℕ) (value : Sector) : Type 0 where
  pub failed : Flash
  pub block : ℕ
  pub changes : Changes command block
  pub cut : CutLeaves command extent value f failed
  pub has : HasLeftVersion failed command left
  pub swap : IsSwapped failed t block spare

-- then flash and layer are consistent again
abbrev pub Retires : Core → Extent → Command → Bool → ℕ → Core → Type 0
Retires old extent command left spare new = (f t : Flash) (value : Sector) (acked begun : List Update) → IsConsistent f old acked begun
    → IsRetired f t extent command left spare value
    → let update : Update = record { extent = extent; value = value } in
    IsConsistent t new (updates_left left command update acked) (updates_left left command update begun)

-- the page of an entry, once these two blocks have changed their numbers
abbrev pub swapped_entry : ℕ → ℕ → Option PageAddr → Option PageAddr
swapped_entry a b None = None
swapped_entry a b (Some at) = Some (record { block = swapped a b at.block; page = at.page })

-- each sector is mapped to the page that it had, by the new numbers of these two blocks
pub record Renumbers (old new : List (Option PageAddr)) (a b : ℕ) : Type 0 where
  pub size : length new ≡ length old
  pub entries : (s : ℕ) → slice_index_or new s None ≡ swapped_entry a b (slice_index_or old s None)

-- a map and the next number, after a command has failed, by the old numbers of blocks: a program that has left its version is as one that succeeded, and
-- a version's number is given once
abbrev pub Keeps : Command → Bool → Extent → List (Option PageAddr) → List (Option PageAddr) → ℕ → ℕ → Type 0
Keeps (Program at n) true extent old new before now = MapsAll old new extent at × (now ≡ n + 1)
Keeps (Program at n) false extent old new before now = (new ≡ old) × (now ≡ n + 1)
Keeps (Copy k from to) left extent old new before now = (new ≡ old) × (now ≡ before)
Keeps (Erase b) left extent old new before now = (new ≡ old) × (now ≡ before)
Keeps Refused left extent old new before now = (new ≡ old) × (now ≡ before)
