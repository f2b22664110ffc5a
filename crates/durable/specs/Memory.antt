-- How the layer's memory and the flash go together.
use Rattle.std.specs.Prelude.{◌≡◌, ◌<◌, ◌≤◌, ℕ, length, Option, None, Some, slice_index_or}
use Rattle.geometry.specs.Sectors.{Sector}
use Rattle.geometry.specs.declared.page_addr.PageAddr.{PageAddr}
use Rattle.durable.specs.declared.extent.Extent.{Extent}
use Rattle.durable.specs.Flash.{Erased, Version, Flash, HoldsNewest, HoldsNoValue}
use Rattle.durable.specs.declared.memory.Core.{Core}
use Rattle.durable.specs.declared.next_pages.NextPages.{NextPages}
use Rattle.durable.specs.Collecting.{IsOpenAt}

-- what the map says of a sector
abbrev pub map_entry : Core → ℕ → Option PageAddr
map_entry core s = slice_index_or core.map.items s None

-- a sector is mapped to a page that has its newest version, or no page has a value of it
abbrev pub IsMappedTo : Flash → ℕ → Sector → Option PageAddr → Type 0
IsMappedTo f s value (Some at) = HoldsNewest f s value at.block at.page
IsMappedTo f s value None = (value ≡ None) × HoldsNoValue f s

-- the pages of each open block are erased from its next one on
abbrev pub AreErasedFrom : Flash → NextPages → Type 0
AreErasedFrom f next = (at : PageAddr) → IsOpenAt next at → (p : ℕ) → at.page ≤ p → f at.block p ≡ Erased

-- the flash has the array, and the layer's map says where
pub record Represents (f : Flash) (core : Core) (array : ℕ → Sector) : Type 0 where
  pub mapped : (s : ℕ) → s < length core.map.items → IsMappedTo f s (array s) (map_entry core s)
  pub numbers : (b p : ℕ) (e : Extent) (m : ℕ) (v : Sector) → f b p ≡ Version e m v → m < core.next_number
  pub erased : AreErasedFrom f core.next_pages
