-- What a step may do to the table, as the seats that don't make it see it.
use Rattle.std.specs.Prelude.{◌≡◌, ℕ, ◌*◌, ◌<◌, ◌≤◌, ◌⊎◌, true, Some}
use Rattle.geometry.specs.History.{Begins}
use Rattle.geometry.specs.Limits.{Numbers}
use Rattle.geometry.specs.declared.words.MapWord.{MapWord}
use Rattle.geometry.specs.declared.words.PinWord.{PinWord}
use Rattle.geometry.specs.declared.words.Phase.TheVariants.{Free, Open}
use Rattle.flash_rule.specs.declared.facts.Name.{Name}
use Rattle.flash_rule.specs.declared.facts.Name.TheVariants.{Pass}
use Rattle.flash_rule.specs.declared.carried.Carried.{Carried}
use Rattle.flash_rule.specs.Views.{calls_of}
use Rattle.flash_rule.specs.World.{World, is_owned, is_intact, is_shut, age_of}
use Rattle.flash_rule.specs.Rule.{IsProgrammed, IsDealt}

-- A block's state goes forward: it gets no younger, loses no written page within a generation, and stays intact while it has readers; it is
-- intact only if it was intact or was taken while free; and once it is closed it becomes free, and open, only in a new generation
pub record PinOnward (p q : PinWord) : Type 0 where
  pub generation : p.generation ≤ q.generation
  pub age : age_of p ≤ age_of q
  pub written : q.generation ≡ p.generation → p.written ≤ q.written
  pub held : 0 < p.readers → is_intact p.phase ≡ true → (q.generation ≡ p.generation) × (is_intact q.phase ≡ true)
  pub was : q.generation ≡ p.generation → is_intact q.phase ≡ true → ¬ (p.phase ≡ Free) → is_intact p.phase ≡ true
  pub free : q.generation ≡ p.generation → q.phase ≡ Free → p.phase ≡ Free
  pub shut : q.generation ≡ p.generation → is_shut p.phase ≡ true → is_shut q.phase ≡ true

-- A block stays as it was, except for its readers
pub record Untouched (g g' : World) (b : ℕ) : Type 0 where
  pub owner : g'.owner b ≡ g.owner b
  pub phase : (g'.pins b).phase ≡ (g.pins b).phase
  pub generation : (g'.pins b).generation ≡ (g.pins b).generation
  pub written : (g'.pins b).written ≡ (g.pins b).written
  pub pages : (p i : ℕ) → g'.pages b p i ≡ g.pages b p i

-- A player's lists of what it has programmed and erased only grow, at their ends, and stay unchanged if another seat steps
pub record ListsOnward (g g' : World) (id : ℕ) (n : Name) : Type 0 where
  pub programs : Begins (g.programs n) (g'.programs n)
  pub erases : Begins (g.erases n) (g'.erases n)
  pub others : ¬ (g.seat n ≡ id) → (g'.programs n ≡ g.programs n) × (g'.erases n ≡ g.erases n)

-- A step of one seat, or of two if one is joined into the other, adds only calls of that seat to the history, moves each block onward,
-- leaves the blocks of others and the pages that can be read, names only pages of its own open blocks, adds only to the lists of that seat's
-- player, sends with a badge copies of all that its player did, and forgets nothing
pub record Onward (z : Numbers) (g g' : World) (id other : ℕ) : Type 0 where
  pub history : Begins g.history g'.history
  pub calls : (t : ℕ) → ¬ (g.seat (Pass t) ≡ id) → calls_of t g'.history ≡ calls_of t g.history
  pub seat : (n : Name) → IsDealt g n → (g'.seat n ≡ g.seat n) × IsDealt g' n
  pub pins : (b : ℕ) → b < z.blocks → PinOnward (g.pins b) (g'.pins b)
  pub owned : (b : ℕ) → b < z.blocks → ¬ (g.owner b ≡ id) → is_owned (g.pins b).phase ≡ true → Untouched g g' b
  pub pages : (b p i : ℕ) → b < z.blocks → is_intact (g.pins b).phase ≡ true → p < (g.pins b).written → g'.pages b p i ≡ g.pages b p i
  pub named : (s : ℕ) (m : MapWord) → g'.map s ≡ Some m → (g.map s ≡ Some m) ⊎ ((g.owner m.block ≡ id) × ((g.pins m.block).phase ≡ Open))
  pub programmer : (m : MapWord) → IsProgrammed (g.pins m.block) m → g'.programmer m.block m.page m.generation ≡ g.programmer m.block m.page m.generation
  pub eraser : (b n : ℕ) → 2 * n < age_of (g.pins b) → g'.eraser b n ≡ g.eraser b n
  pub lists : (n : Name) → IsDealt g n → ListsOnward g g' id n
  pub dealer : ¬ (id ≡ 0) → (g'.passes ≡ g.passes) × (g'.brooms ≡ g.brooms)
  pub badge : (n : Name) → IsDealt g n → ¬ (g.badge n ≡ id) → ¬ (g.badge n ≡ other) → (g'.badge n ≡ g.badge n) × (g'.carries n ≡ g.carries n)
  pub carries : (n : Name) (c : Carried) → g'.carries n ≡ Some c → (g.carries n ≡ Some c) ⊎ ((c.programs ≡ g.programs c.of) × (c.erases ≡ g.erases c.of))
