-- What a broom and another broom, or a broom and a pass that holds a page, know of each other after they met.
use Rattle.std.specs.Prelude.{◌≡◌, ℕ, ◌<◌, true, List, [], ◌∷◌, ◌++◌, Option, None, Some, slice_get}
use Rattle.geometry.specs.Geometry.{blocks_of, pages_of}
use Rattle.geometry.specs.History.{held, Begins}
use Rattle.geometry.specs.declared.words.MapWord.{MapWord}
use Rattle.geometry.specs.declared.page_addr.PageAddr.{PageAddr}
use Rattle.flash_rule.specs.declared.facts.Cycle.{Cycle}
use Rattle.flash_rule.specs.declared.facts.Pin.TheVariants.{Accepted}
use Rattle.flash_rule.specs.declared.view.View.{View}
use Rattle.flash_rule.specs.World.{sector_word}
use Rattle.flash_rule.specs.Seats.{carried}
use Rattle.flash_rule.specs.Plays.{Disjoint, Once, GoesOnFrom}
use Rattle.flash_table.specs.declared.flash.Flash.{Flash}
use Rattle.flash_table.specs.declared.pass.Pass.{Pass}
use Rattle.flash_table.specs.Flash.{IsPassOf, view_of, geometry_of}

-- a page in one generation of its block
abbrev pub page_in : PageAddr → ℕ → MapWord
page_in a generation = record { generation = generation; block = a.block; page = a.page }

-- The pass has an accepted pin on this page of the device, with this value, and no note is out
pub record IsPinned (f : Flash) (p : Pass) (at : MapWord) (value : List ℕ) : Type 0 where
  pub pass : IsPassOf f p
  pub pinned : (view_of p).pin ≡ Accepted at value
  pub block : at.block < blocks_of (geometry_of f)
  pub page : at.page < pages_of (geometry_of f)
  pub whole : (view_of p).whole ≡ true
  pub alone : (view_of p).guest ≡ None

-- The broom has looked once, at sector 0, which is empty after what it has seen if no page was named, and otherwise not empty. It has heard
-- of the other one, and nothing else has changed
pub record HasHeard (v w : View) : Type 0 where
  pub found : Option MapWord
  pub changed : w ≡ record v { seen = w.seen; named = v.named ++ (0, sector_word found) ∷ []; copy = w.copy; older = v.copy }
  pub empty : found ≡ None → held v.numbers.sectors w.seen 0 ≡ None
  pub mapped : (m : MapWord) → found ≡ Some m → (value : List ℕ) × (held v.numbers.sectors w.seen 0 ≡ Some value)

-- Two brooms that met: each has seen what both had seen, and the second one what the first has; they have not both programmed the same page
-- or erased the same generation of a block; neither of them did so twice. Each has heard what the other one has done, and what it had heard
-- of the other one before begins that
pub record BroomsMet (v v' x x' : View) : Type 0 where
  pub first : HasHeard v x
  pub second : HasHeard v' x'
  pub later : Begins v.seen x.seen
  pub brought : Begins v'.seen x.seen
  pub shared : Begins x.seen x'.seen
  pub apart : ¬ (v.role ≡ v'.role)
  pub programs : Disjoint x.programs x'.programs
  pub erases : Disjoint x.erases x'.erases
  pub programmed_once : Once x.programs × Once x'.programs
  pub erased_once : Once x.erases × Once x'.erases
  pub heard : x.copy ≡ Some (carried v')
  pub told : x'.copy ≡ Some (carried x)
  pub before : GoesOnFrom v v' × GoesOnFrom v' v

-- A broom met a pass that holds a page: of the page's block it has erased only earlier generations, it has programmed no page that the pass
-- has, neither of them has programmed one twice, and it has seen all that the pass had. Each has heard what the other one has done, and
-- what it had heard of the other one before begins that; nothing else of the pass has changed
pub record StoodTold (v x : View) (page : MapWord) (w y : View) : Type 0 where
  pub pass : w ≡ record v { copy = Some (carried x); older = v.copy }
  pub broom : HasHeard x y
  pub told : y.copy ≡ Some (carried v)
  pub later : Begins x.seen y.seen
  pub brought : Begins v.seen y.seen
  pub spared : (k : ℕ) (c : Cycle) → slice_get x.erases k ≡ Some c → c.block ≡ page.block → c.generation < page.generation
  pub programs : Disjoint v.programs x.programs
  pub programmed_once : Once v.programs × Once x.programs
  pub before : GoesOnFrom v x × GoesOnFrom x v
