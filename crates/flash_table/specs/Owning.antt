-- The plain data of a seat, and the blocks that it owns.
use Rattle.std.specs.Prelude.{◌≡◌, ℕ, List, [], ◌∷◌, ◌++◌, Option, None, Some}
use Rattle.std.proofs.Props.{props}
use Rattle.geometry.specs.declared.words.Phase.{Phase}
use Rattle.geometry.specs.declared.words.Phase.TheVariants.{Open, Closed, Victim, Erasing}
use Rattle.flash_rule.specs.declared.facts.Owned.{Owned}
use Rattle.flash_rule.specs.Views.{owned_at}
use Rattle.flash_table.specs.declared.pass.OpenBlock.{OpenBlock}
use Rattle.flash_table.specs.declared.broom_seat.ReclaimedBlock.{ReclaimedBlock}
use Rattle.flash_table.specs.declared.broom_seat.Reclaiming.{Reclaiming}
use Rattle.flash_table.specs.declared.broom_seat.Reclaiming.TheVariants as reclaiming
use Rattle.flash_table.specs.declared.broom_seat.BroomBlocks.{BroomBlocks}

-- an open block as its owner's view has it
abbrev pub owned_of : OpenBlock → Owned
owned_of o = record { block = o.block; phase = Open; generation = o.generation; written = o.written }

-- that block once its owner has given it up
abbrev pub closed_as : OpenBlock → Owned
closed_as o = record { block = o.block; phase = Closed; generation = o.generation; written = o.written }

-- what a seat with this open block, or none, gives up when it closes it
abbrev pub closed_list : Option OpenBlock → List Owned
closed_list None = []
closed_list (Some o) = closed_as o ∷ []

-- the blocks owned by a seat with this open block, or none
abbrev pub owned_list : Option OpenBlock → List Owned
owned_list None = []
owned_list (Some o) = owned_of o ∷ []

-- a block that is drained or erased, in its phase, as its owner's view has it
abbrev pub reclaimed_as : Phase → ReclaimedBlock → Owned
reclaimed_as phase o = record { block = o.block; phase = phase; generation = o.generation; written = o.written }

-- the block that a broom drains or erases, or none
abbrev pub reclaimed_list : Reclaiming → List Owned
reclaimed_list reclaiming.Nothing = []
reclaimed_list (reclaiming.Draining o) = reclaimed_as Victim o ∷ []
reclaimed_list (reclaiming.Erasing o) = reclaimed_as Erasing o ∷ []

-- a broom's blocks as a list: its destination, its spare, and the one that it drains or erases
abbrev pub blocks_list : BroomBlocks → List Owned
blocks_list x = (owned_list x.destination ++ owned_list x.spare) ++ reclaimed_list x.reclaiming

-- no block is twice in the list
abbrev pub AreApart : List Owned → Type 0
AreApart [] = Unit {0}
AreApart (o ∷ os) = (owned_at o.block os ≡ None) × AreApart os

-- That no block is twice in a list is a fact with at most one proof
pub AreApart-prop : (row : List Owned) → IsProp (AreApart row)
AreApart-prop [] = hlevel props
AreApart-prop (o ∷ os) = let rest = AreApart-prop os in hlevel (props, rest)

-- A seat owns the blocks of this list, each once, and no others
pub record OwnsJust (row owns : List Owned) : Type 0 where
  pub same : (b : ℕ) → owned_at b owns ≡ owned_at b row
  pub apart : AreApart row
