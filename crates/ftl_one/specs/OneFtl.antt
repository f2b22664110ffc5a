-- What contracts see of a `OneFtl`: its geometry, its sectors and its stock.
use Rattle.std.specs.Prelude.{ℕ, List, Result, Ok, Err}
use Rattle.geometry.specs.{declared.geometry.Geometry.Geometry, Sectors.Sector, declared.answer.Was.Was}
use Rattle.geometry.specs.Geometry.{blocks_of, endurance_of, page_bytes_of, pages_of, sectors_of}
use Rattle.geometry.specs.declared.answer.Was.TheVariants as was
use Rattle.ftl_one.specs.{declared.one_ftl.OneFtl.OneFtl, declared.one_ftl.NewOneFault.NewOneFault, Lawful.blocks_in, Stock.Stock}
use Rattle.ftl_one.specs.declared.one_ftl.NewOneFault.TheVariants as fault
use Rattle.ftl_one.specs.Store as store

-- the numbers of a layer
unfoldable pub geometry_of : OneFtl → Geometry
geometry_of ftl = store.geometry_of ftl.store

-- how many sectors it has
abbrev pub sectors : OneFtl → ℕ
sectors ftl = sectors_of (geometry_of ftl)

-- how many blocks it has
abbrev pub blocks : OneFtl → ℕ
blocks ftl = blocks_of (geometry_of ftl)

-- how many pages a block has
abbrev pub pages : OneFtl → ℕ
pages ftl = pages_of (geometry_of ftl)

-- how many bytes a page has
abbrev pub page_bytes : OneFtl → ℕ
page_bytes ftl = page_bytes_of (geometry_of ftl)

-- how many erases retire a block
abbrev pub endurance : OneFtl → ℕ
endurance ftl = endurance_of (geometry_of ftl)

-- the array of sectors
unfoldable pub array_of : OneFtl → List Sector
array_of ftl = store.array_of ftl.store

-- the blocks and the totals
unfoldable pub stock_of : OneFtl → Stock
stock_of ftl = record { blocks = blocks_in ftl.store ftl.roles.items; programs = ftl.counts.programs; copies = ftl.counts.copies; erases = ftl.counts.erases }

-- what a sector was, by the result of a write of an empty sector: it is looked at first, so the layer is worn out only if it was empty
abbrev pub was_found : {X : Type 0} → Result X NewOneFault → Was
was_found (Ok _) = was.Empty
was_found (Err fault.WornOut) = was.Empty
was_found (Err fault.Written) = was.Written
