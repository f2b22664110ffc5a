-- All words of a block are wiped, one after the other.
use Rattle.std.proofs.Common.{◌≡◌, ℕ, refl}
use Rattle.flash_rule.specs.declared.view.View.{View}
use Rattle.flash_table.specs.{declared.flash.Flash.Flash, Flash.IsBroomOf, Flash.broom_view, Flash.own_blocks}
use Rattle.flash_table.specs.declared.broom_seat.{BroomBlocks.BroomBlocks, BroomSeat.BroomSeat}

-- The first words of the block are wiped, so many of them, and nothing else has changed
pub record WipedTo (f : Flash) (v : View) (x : BroomBlocks) (i : ℕ) (s : BroomSeat) : Type 0 where
  pub seat : IsBroomOf f s
  pub blocks : own_blocks s ≡ x
  pub changed : broom_view s ≡ record v { wiped = i }

pub wiped_none : (f : Flash) (s : BroomSeat) → IsBroomOf f s → (broom_view s).wiped ≡ 0 → WipedTo f (broom_view s) (own_blocks s) 0 s
wiped_none f s seat none = record { seat = seat; blocks = refl; changed = λ j. record (broom_view s) { wiped = none j } }
