-- Commands that fail: their block is bad from then on. It is read still, but not in use any more, and the blocks get other numbers.
use Rattle.std.specs.Prelude.{◌≡◌, ◌≢◌, ◌<◌, ◌==◌, ℕ, if◌then◌else◌}
use Rattle.geometry.specs.Sectors.{Sector}
use Rattle.durable.specs.Flash.{Version, Flash}
use Rattle.durable.specs.Device.{Device}
use Rattle.durable.specs.declared.extent.Extent.{Extent}
use Rattle.durable.specs.declared.command.Command.{Command}
use Rattle.durable.specs.declared.command.Command.TheVariants.{Program, Copy, Erase, Refused}

-- each block has another number, and its pages hold the same; those of so many blocks are numbered among themselves
pub record IsRenumbered (f t : Flash) (blocks : ℕ) : Type 0 where
  pub to : ℕ → ℕ
  pub from : ℕ → ℕ
  pub inverse : (c : ℕ) → to (from c) ≡ c
  pub moved : (b p : ℕ) → t (to b) p ≡ f b p
  pub within : (b : ℕ) → b < blocks → to b < blocks

-- no page of the block has a version
abbrev pub HoldsNoVersion : Flash → ℕ → Type 0
HoldsNoVersion f b = (p : ℕ) (e : Extent) (m : ℕ) (v : Sector) → f b p ≢ Version e m v

-- a block that is in use has no version
abbrev pub HasVersionlessBlock : Flash → Device → Type 0
HasVersionlessBlock f device = (b : ℕ) × (b < device.blocks) × HoldsNoVersion f b

-- the same flash and sectors. The numbers of blocks in use may differ
abbrev pub IsSameFlashOf : Device → Device → Type 0
IsSameFlashOf old new = (new.read_blocks ≡ old.read_blocks) × (new.pages ≡ old.pages) × (new.sectors ≡ old.sectors)

-- the number of a block after these two have changed theirs
abbrev pub swapped : ℕ → ℕ → ℕ → ℕ
swapped a b c = if c == a then b else if c == b then a else c

-- two blocks have changed their numbers, and each page holds the same
abbrev pub IsSwapped : Flash → Flash → ℕ → ℕ → Type 0
IsSwapped f t a b = (c p : ℕ) → t (swapped a b c) p ≡ f c p

-- the command changes pages of this block alone
abbrev pub Changes : Command → ℕ → Type 0
Changes (Program at n) b = b ≡ at.block
Changes (Copy k from to) b = b ≡ to.block
Changes (Erase c) b = b ≡ c
Changes Refused b = ⊥
