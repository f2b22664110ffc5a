-- What a mount needs of the flash to have a free block.
use Rattle.std.specs.Prelude.{◌≡◌, ◌≢◌, ◌⊎◌, ◌<◌, ℕ, List, length, Option, None, Some}
use Rattle.geometry.specs.Sectors.{Sector}
use Rattle.geometry.specs.declared.page_addr.PageAddr.{PageAddr}
use Rattle.durable.specs.Flash.{Flash, HoldsNeeded, HoldsNewest}
use Rattle.durable.specs.declared.memory.Core.{Core}
use Rattle.durable.specs.declared.next_pages.NextPages.{NextPages}
use Rattle.durable.specs.Next.{HasFree}

-- each newest version in the block that is needed is in another block too
abbrev pub IsDuplicated : Flash → ℕ → ℕ → Type 0
IsDuplicated f sectors b = (s p : ℕ) (v : Sector) → s < sectors → HoldsNeeded f s v b p
    → (d : ℕ) × (q : ℕ) × (w : Sector) × (d ≢ b) × HoldsNewest f s w d q

-- a mount can free some block, since all of its newest versions that are needed are elsewhere too
abbrev pub CanFree : Flash → ℕ → ℕ → Type 0
CanFree f blocks sectors = (b : ℕ) × (b < blocks) × IsDuplicated f sectors b

-- a closed block is free; or only that of copies is open, and has nothing else
abbrev pub IsSparedAt : Flash → List (Option PageAddr) → ℕ → NextPages → Type 0
IsSparedAt f map blocks next = HasFree blocks map next ⊎ ((to : PageAddr)
    × (next.hosts ≡ None) × (next.copies ≡ Some to) × (to.block < blocks) × IsDuplicated f (length map) to.block)

-- whatever a power cut leaves, a mount can free a block
abbrev pub LeavesSpare : Flash → Core → Type 0
LeavesSpare f core = IsSparedAt f core.map.items core.blocks core.next_pages
