-- What the parts of a write record in what its pass knows: a block is taken, a page is filled, and a full block is closed.
use Rattle.std.specs.Prelude.{◌≡◌, ℕ, ◌+◌, ◌<◌, List, [], ◌∷◌, ◌++◌, Option, None, Some}
use Rattle.std.specs.List.{range_with_len}
use Rattle.geometry.specs.declared.words.MapWord.{MapWord}
use Rattle.flash_rule.specs.declared.facts.Owned.{Owned}
use Rattle.flash_rule.specs.declared.facts.Work.{Work}
use Rattle.flash_rule.specs.declared.view.View.{View}
use Rattle.flash_rule.specs.Plays.{CanPlace, IsSettled, next_page}
use Rattle.flash_table.specs.declared.pass.OpenBlock.{OpenBlock}
use Rattle.flash_table.specs.Owning.{owned_of, closed_as}
use Rattle.geometry.specs.Geometry.{blocks_of, endurance_of, pages_of}
use Rattle.geometry.specs.declared.geometry.Geometry.{Geometry}
use Rattle.flash_table.specs.declared.flash.Flash.{Flash}
use Rattle.flash_table.specs.declared.pass.Pass.{Pass}
use Rattle.flash_table.specs.Flash.{IsPassOf, geometry_of, opened_of, view_of}
use Rattle.host.specs.Told.{Refused}

-- The lowest free block was taken: it is open, with nothing written, and the blocks below it were tried in order and found taken
pub record TookLowest (v : View) (w : View) (opened : Option OpenBlock) : Type 0 where
  pub block : ℕ
  pub generation : ℕ
  pub low : block < v.numbers.blocks
  pub young : generation < v.numbers.endurance
  pub opens : opened ≡ Some (record { block = block; generation = generation; written = 0 })
  pub changed : w ≡ record v {
    taken = v.taken + 1;
    denied = v.denied ++ range_with_len 0 block;
    owns = owned_of (record { block = block; generation = generation; written = 0 }) ∷ [];
  }

-- The first unwritten page of the open block was filled with a value and a sector's stamp, and counted. It can be named as the sector's
pub record Filled (v : View) (o : OpenBlock) (s : ℕ) (value : List ℕ) (page : MapWord) (w : View) : Type 0 where
  pub work : Work
  pub next : page ≡ next_page (owned_of o)
  pub changed : w ≡ record v { work = Some work; programs = v.programs ++ page ∷ []; owns = owned_of (record o { written = o.written + 1 }) ∷ [] }
  pub placeable : CanPlace w s page value

-- The pass has this block open, with a page left: it had it before, or it has just taken it
pub record Starts (f : Flash) (v : View) (p : Pass) (o : OpenBlock) : Type 0 where
  pub pass : IsPassOf f p
  pub opened : opened_of p ≡ Some o
  pub low : o.block < blocks_of (geometry_of f)
  pub left : o.written < pages_of (geometry_of f)
  pub young : o.generation < endurance_of (geometry_of f)
  pub settled : IsSettled (view_of p)
  pub changed : view_of p ≡ record v { taken = (view_of p).taken; denied = (view_of p).denied; owns = (view_of p).owns }
  pub continued : (x : Owned) → v.owns ≡ x ∷ [] → (owned_of o ≡ x) × ((view_of p).taken ≡ v.taken) × ((view_of p).denied ≡ v.denied)
  pub begun : v.owns ≡ [] → (o.written ≡ 0) × ((view_of p).taken ≡ v.taken + 1) × ((view_of p).denied ≡ v.denied ++ range_with_len 0 o.block)

-- A page was filled and counted for a sector, in the block that was open or in the lowest one that was free
pub record IsProgrammed (f : Flash) (v : View) (s : ℕ) (value : List ℕ) (page : MapWord) (q : Pass) : Type 0 where
  pub start : Pass
  pub block : OpenBlock
  pub starts : Starts f v start block
  pub filled : Filled (view_of start) block s value page (view_of q)
  pub opened : opened_of q ≡ Some (record block { written = block.written + 1 })
  pub pass : IsPassOf f q

-- A block with a page left stays open, and nothing changes; a full one is closed and given up
pub record ClosedIfFull (pages : ℕ) (v : View) (o : OpenBlock) (w : View) (opened : Option OpenBlock) : Type 0 where
  pub kept : o.written < pages → (w ≡ v) × (opened ≡ Some o)
  pub full : o.written ≡ pages → (w ≡ record v { owns = []; work = None; ceded = v.ceded ++ closed_as o ∷ [] }) × (opened ≡ None)

-- no block was free, and none is open
abbrev pub TookNone : Pass → Pass → Type 0
TookNone old new = Refused (view_of old) (view_of new) × (opened_of new ≡ None)

-- an open block of the device has a page left
abbrev pub HasRoom : Geometry → Option OpenBlock → Type 0
HasRoom geo opened = (o : OpenBlock) × (opened ≡ Some o) × (o.block < blocks_of geo) × (o.written < pages_of geo)

-- the pass's open block is closed if it is full
abbrev pub IsClosedIfFull : Geometry → Pass → OpenBlock → Pass → Type 0
IsClosedIfFull geo old o new = ClosedIfFull (pages_of geo) (view_of old) o (view_of new) (opened_of new)
