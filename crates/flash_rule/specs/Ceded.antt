-- The blocks that the seats gave up, each with the state in which it was given up. They determine the state of every block that no seat
-- owns.
use Rattle.std.specs.Prelude.{◌≡◌, ℕ, ◌<◌, ◌+◌, ◌≤◌, ◌⊎◌, Bool, true, false, List, [], ◌∷◌, Some, slice_get, if◌then◌else◌}
use mathlib.Core.Option.{some}
use lib.ListN.{get_elem?}
use Rattle.geometry.specs.Limits.{Numbers}
use Rattle.geometry.specs.declared.words.PinWord.{PinWord}
use Rattle.geometry.specs.declared.words.Phase.{Phase}
use Rattle.geometry.specs.declared.words.Phase.TheVariants.{Free, Open, Closed, Victim, Drained, Erasing, Retired}
use Rattle.flash_rule.specs.declared.facts.Owned.{Owned}
use Rattle.flash_rule.specs.declared.facts.Cycle.{Cycle}
use Rattle.flash_rule.specs.declared.view.View.{View}
use Rattle.flash_rule.specs.Views.{may_own}
use Rattle.flash_rule.specs.World.{is_owned}

-- the order in which a generation of a block goes through the phases
abbrev pub rank : Phase → ℕ
rank Free = 0
rank Open = 1
rank Closed = 2
rank Victim = 3
rank Drained = 4
rank Erasing = 5
rank Retired = 6

-- a block in this state, as it is listed by a seat that gives it up in that state
abbrev pub entry_of : ℕ → PinWord → Owned
entry_of b p = record { block = b; phase = p.phase; generation = p.generation; written = p.written }

-- a wiped block as it is given up, free in its next generation
abbrev pub freed_as : Owned → Owned
freed_as o = record { block = o.block; phase = Free; generation = o.generation + 1; written = 0 }

-- The block is in a later generation than when it was given up, or in the same one, in the same phase or a later one, and with at least
-- as many pages written
abbrev pub IsReached : Owned → PinWord → Type 0
IsReached o p = (o.generation < p.generation) ⊎ ((o.generation ≡ p.generation) × (rank o.phase ≤ rank p.phase) × (o.written ≤ p.written))

-- The block is as it was when the device was made: free, in generation 0, with no page written
pub record IsUnused (p : PinWord) : Type 0 where
  pub free : p.phase ≡ Free
  pub generation : p.generation ≡ 0
  pub written : p.written ≡ 0

-- Entry k of what this seat gave up is the block as it is in o
pub record IsCededBy (vs : List View) (id k : ℕ) (o : Owned) : Type 0 where
  pub view : View
  pub seat : get_elem? vs id ≡ some view
  pub entry : slice_get view.ceded k ≡ Some o

-- Some seat gave the block up as it is in o
abbrev pub IsCeded : List View → Owned → Type 0
IsCeded vs o = (id : ℕ) × (k : ℕ) × IsCededBy vs id k o

-- The two are the same block, given up in the same phase of the same generation
pub record IsSameTurn (o e : Owned) : Type 0 where
  pub block : o.block ≡ e.block
  pub phase : o.phase ≡ e.phase
  pub generation : o.generation ≡ e.generation

-- whether this is the phase of a drained block
abbrev pub is_drained : Phase → Bool
is_drained Free = false
is_drained Open = false
is_drained Closed = false
is_drained Victim = false
is_drained Drained = true
is_drained Erasing = false
is_drained Retired = false

-- the blocks that were given up drained, each with its generation, in order
abbrev pub drained_of : List Owned → List Cycle
drained_of [] = []
drained_of (o ∷ os) = if is_drained o.phase then (record { block = o.block; generation = o.generation } ∷ drained_of os) else drained_of os

-- GIVEN UP. Each block that was given up is one of the device's, and has reached at least the state in which it was given up; no block is
-- given up twice in the same phase of the same generation, by any seats; a seat's drains are exactly the blocks that it gave up drained, in
-- order; a block that no seat owns is as it was when the device was made, or exactly as some seat gave it up; and a seat that may not own
-- blocks gave none up
pub record LawfulCeded (z : Numbers) (pins : ℕ → PinWord) (vs : List View) : Type 0 where
  pub reached : (id k : ℕ) (o : Owned) → IsCededBy vs id k o → (o.block < z.blocks) × IsReached o (pins o.block)
  pub once : (id k : ℕ) (o : Owned) (j i : ℕ) (e : Owned) → IsCededBy vs id k o → IsCededBy vs j i e → IsSameTurn o e → (id ≡ j) × (k ≡ i)
  pub drained : (id : ℕ) (v : View) → get_elem? vs id ≡ some v → v.drains ≡ drained_of v.ceded
  pub left : (b : ℕ) → b < z.blocks → is_owned (pins b).phase ≡ false → IsUnused (pins b) ⊎ IsCeded vs (entry_of b (pins b))
  pub owners : (id : ℕ) (v : View) → get_elem? vs id ≡ some v → may_own v.role ≡ false → v.ceded ≡ []
