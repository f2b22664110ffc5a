-- The sizes of a device, and what lies on it.
use Rattle.std.specs.Prelude.{◌≡◌, ◌<◌, ◌+◌, ◌^◌, ℕ, length, Option, IfSome}
use Rattle.geometry.specs.Sectors.{Sector}
use Rattle.geometry.specs.declared.page_addr.PageAddr.{PageAddr}
use Rattle.durable.specs.Collecting.{live_in}
use Rattle.durable.specs.Updates.{LiesWithin}
use Rattle.durable.specs.Flash.{Version, Flash}
use Rattle.durable.specs.declared.extent.Extent.{Extent}
use Rattle.durable.specs.declared.command.Command.{Command}
use Rattle.durable.specs.declared.command.Command.TheVariants.{Program, Copy, Erase, Refused}
use Rattle.durable.specs.declared.memory.Core.{Core}
use Rattle.durable.specs.declared.found.Stamp.{Stamp}
use Rattle.durable.specs.declared.mount.Mount.{Mount}
use Rattle.durable.specs.declared.next_pages.NextPages.{NextPages}

-- how many blocks a device has in use, how many are read: those, and bad ones and a reserve after them; how many pages a block has, and how many
-- sectors are stored
pub record Device : Type 0 where
  pub blocks : ℕ
  pub read_blocks : ℕ
  pub pages : ℕ
  pub sectors : ℕ

-- the device that the layer runs on
abbrev pub device_of : Core → Device
device_of core = record { blocks = core.blocks; read_blocks = core.read_blocks; pages = core.pages; sectors = length core.map.items }

-- the device that is mounted
abbrev pub device_in : Mount → Device
device_in mount = record { blocks = mount.blocks; read_blocks = mount.read_blocks; pages = mount.pages; sectors = length mount.found.items }

-- the number of the next version
abbrev pub next_number_of : Core → ℕ
next_number_of core = core.next_number

-- the number of the next version, as far as the stamps are noted
abbrev pub next_number_in : Mount → ℕ
next_number_in mount = mount.next_number

-- the version is of sectors that the device has, and its number isn't the greatest
abbrev pub IsStampOn : Device → Option Stamp → Type 0
IsStampOn device stamp = IfSome stamp (λ s. LiesWithin device.sectors s.extent × (s.number + 1 < 2 ^ 64))

-- how many losses the mount has told
abbrev pub losses_of : Core → ℕ
losses_of core = core.losses

-- how many sectors have their page in a block
abbrev pub live_sectors : Core → ℕ → ℕ
live_sectors core b = live_in b core.map.items

-- the pages to be programmed next
abbrev pub next_pages_of : Core → NextPages
next_pages_of core = core.next_pages

-- the page is in a block that is in use
abbrev pub LiesOn : Device → PageAddr → Type 0
LiesOn device at = (at.block < device.blocks) × (at.page < device.pages)

-- the page is in a block that is read
abbrev pub IsReadOn : Device → PageAddr → Type 0
IsReadOn device at = (at.block < device.read_blocks) × (at.page < device.pages)

-- the command programs a page and erases a block that is in use, and copies one that is read
abbrev pub NamesOn : Device → Command → Type 0
NamesOn device (Program at n) = LiesOn device at
NamesOn device (Copy k from to) = IsReadOn device from × LiesOn device to
NamesOn device (Erase b) = b < device.blocks
NamesOn device Refused = Unit {0}

-- each version is in a page that is read, of an extent of its sectors, and has a number below the greatest
abbrev pub IsWrittenOn : Device → Flash → Type 0
IsWrittenOn device f = (b p : ℕ) (e : Extent) (m : ℕ) (v : Sector) → f b p ≡ Version e m v
    → (b < device.read_blocks) × (p < device.pages) × LiesWithin device.sectors e × (m + 1 < 2 ^ 64)

-- each version in a page that is read is of sectors that the device has, and its number isn't the greatest
abbrev pub HasOwnVersions : Device → Flash → Type 0
HasOwnVersions device f = (b p : ℕ) (e : Extent) (m : ℕ) (v : Sector) → b < device.read_blocks → p < device.pages → f b p ≡ Version e m v
    → LiesWithin device.sectors e × (m + 1 < 2 ^ 64)
