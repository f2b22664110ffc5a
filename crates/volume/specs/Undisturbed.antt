-- What holds of a page from when a pass has pinned it until it is released, whatever other threads do during it: its block is not erased,
-- and none of its programmed pages is programmed again.
use Rattle.std.specs.Prelude.{◌≡◌, ℕ, ◌<◌, List, Option, Some, IfSome, slice_get}
use Rattle.geometry.specs.declared.words.MapWord.{MapWord}
use Rattle.flash_rule.specs.{declared.carried.Carried.Carried, declared.facts.Cycle.Cycle, Plays.Disjoint, Plays.Once}
use Rattle.flash_table.specs.{declared.flash.Flash.Flash, Flash.view_of}
use Rattle.host.specs.{declared.holding.Held.Held, Holding.Holds, Holding.pass_of, Holding.page_of}

-- all erases in this list of the page's block are of earlier generations of it
abbrev pub AreEarlier : List Cycle → MapWord → Type 0
AreEarlier erases m = (k : ℕ) (c : Cycle) → slice_get erases k ≡ Some c → c.block ≡ m.block → c.generation < m.generation

-- From a hold to a later one: the same page is pinned in the same generation and holds the same value; and another player, by what was
-- heard of it, has not erased the block since that generation began, and has programmed no page that the pass did
pub record Undisturbed (f : Flash) (value : List ℕ) (old : Held) (heard : Option Carried) (new : Held) : Type 0 where
  -- the same page is pinned, in the same generation of its block, and holds the same value
  pub page : page_of new ≡ page_of old
  pub holds : Holds f new value
  -- the other player has not erased the page's block in this generation or a later one
  pub unerased : IfSome heard (λ c. AreEarlier c.erases (page_of new))
  -- and has programmed no page, in one generation of its block, that this pass has
  pub once : IfSome heard (λ c. Disjoint (view_of (pass_of new)).programs c.programs)
  -- nor has either of them programmed one twice
  pub each_once : IfSome heard (λ c. Once (view_of (pass_of new)).programs × Once c.programs)

-- whatever a hold's page holds, nothing has disturbed it
abbrev pub IsUndisturbed : Flash → Held → Option Carried → Held → Type 0
IsUndisturbed f old heard new = (value : List ℕ) → Holds f old value → Undisturbed f value old heard new
