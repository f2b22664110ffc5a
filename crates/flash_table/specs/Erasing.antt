-- What the calls of a broom that erases a block need, and what they record.
use Rattle.std.specs.Prelude.{◌≡◌, ℕ, ◌+◌, ◌*◌, ◌<◌, ◌≤◌, [], ◌∷◌, ◌++◌, Bool, MatchBool}
use Rattle.geometry.specs.Limits.{Numbers}
use Rattle.geometry.specs.Words.{pin_word, FitsPin}
use Rattle.geometry.specs.declared.words.PinWord.{PinWord}
use Rattle.geometry.specs.declared.words.Phase.TheVariants.{Drained, Erasing}
use Rattle.flash_rule.specs.declared.view.View.{View}
use Rattle.flash_rule.specs.Views.{with_owned}
use Rattle.flash_rule.specs.BroomPlays.{IsLastLoaded, owned_as, cycle_of}
use Rattle.flash_table.specs.declared.flash.Flash.{Flash}
use Rattle.flash_table.specs.declared.broom_seat.BroomBlocks.{BroomBlocks}
use Rattle.flash_table.specs.declared.broom_seat.BroomSeat.{BroomSeat}
use Rattle.flash_table.specs.declared.broom_seat.ReclaimedBlock.{ReclaimedBlock}
use Rattle.flash_table.specs.declared.broom_seat.Reclaiming.TheVariants as reclaiming
use Rattle.flash_table.specs.Flash.{broom_view, own_blocks, device}

-- The state is that of a drained block without readers, and the broom loaded it last for this block
pub record IsUnread (v : View) (b : ℕ) (p : PinWord) : Type 0 where
  pub fits : FitsPin p
  pub drained : p.phase ≡ Drained
  pub unread : p.readers ≡ 0
  pub loaded : IsLastLoaded v b (pin_word p)

-- A condemn records: the block is the broom's to erase, its erase is listed, and none of its words is wiped yet
pub record NowErases (v : View) (x : BroomBlocks) (b : ℕ) (p : PinWord) (w : View) (y : BroomBlocks) : Type 0 where
  pub changed : w ≡ record v { owns = with_owned (owned_as b p Erasing) v.owns; erases = v.erases ++ cycle_of (owned_as b p Erasing) ∷ []; wiped = 0 }
  pub blocks : y ≡ record x { reclaiming = reclaiming.Erasing (record { block = b; generation = p.generation; written = p.written }) }

-- or its word was no longer the expected one: the block is listed as busy
pub record FoundBusy (v : View) (x : BroomBlocks) (b : ℕ) (w : View) (y : BroomBlocks) : Type 0 where
  pub changed : w ≡ record v { busy = v.busy ++ b ∷ [] }
  pub blocks : y ≡ x

-- what a condemn records, by its result
abbrev pub CondemnTold : BroomSeat → ℕ → PinWord → Bool → BroomSeat → Type 0
CondemnTold s b p result t =
    MatchBool result (NowErases (broom_view s) (own_blocks s) b p (broom_view t) (own_blocks t))
    (FoundBusy (broom_view s) (own_blocks s) b (broom_view t) (own_blocks t))

-- The broom erases this block, which is one of the device's and has no more pages written than a block has
pub record IsErasing (f : Flash) (s : BroomSeat) (o : ReclaimedBlock) : Type 0 where
  pub its : (own_blocks s).reclaiming ≡ reclaiming.Erasing o
  pub low : o.block < (device f).blocks
  pub within : o.written ≤ (device f).pages

-- how many words a block has, with the stamps of its pages
abbrev pub words_in_block : Numbers → ℕ
words_in_block z = z.pages * (z.words + 1)

-- The broom erases this block, has wiped all of its words, and the block has another generation left
pub record CanLiveOn (f : Flash) (s : BroomSeat) (o : ReclaimedBlock) : Type 0 where
  pub erases : IsErasing f s o
  pub wiped : words_in_block (device f) ≤ (broom_view s).wiped
  pub another : o.generation + 1 < (device f).endurance

-- The broom erases this block for the last time
pub record IsLastErase (f : Flash) (s : BroomSeat) (o : ReclaimedBlock) : Type 0 where
  pub erases : IsErasing f s o
  pub last : o.generation + 1 ≡ (device f).endurance
