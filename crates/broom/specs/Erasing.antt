-- What an erase records in what its broom knows, before and after, and the two ways in which a wiped block begins its next generation.
use Rattle.std.specs.Prelude.{◌≡◌, ◌+◌, None, Some, ℕ, ◌<◌, true, false, List, [], ◌∷◌, ◌++◌}
use Rattle.flash_rule.specs.declared.view.View.{View}
use Rattle.flash_rule.specs.Views.{with_owned}
use Rattle.flash_table.specs.declared.broom_seat.BroomBlocks.{BroomBlocks}
use Rattle.flash_table.specs.declared.broom_seat.ReclaimedBlock.{ReclaimedBlock}
use Rattle.flash_table.specs.declared.broom_seat.Reclaiming.TheVariants.{Nothing}
use Rattle.flash_table.specs.declared.pass.OpenBlock.{OpenBlock}
use Rattle.flash_table.specs.Owning.{owned_of}
use Rattle.flash_table.specs.GivingUp.{left_free}
use Rattle.geometry.specs.Words.{FitsPin, pin_word}
use Rattle.geometry.specs.declared.words.Phase.TheVariants.{Drained, Erasing, Retired}
use Rattle.geometry.specs.declared.words.PinWord.{PinWord}
use Rattle.flash_rule.specs.declared.facts.Owned.{Owned}
use Rattle.flash_rule.specs.Ceded.{freed_as}
use Rattle.flash_rule.specs.BroomPlays.{owned_as}
use Rattle.flash_table.specs.Erasing.{words_in_block}
use Rattle.broom.specs.declared.broom.Broom.{Broom}
use Rattle.broom.specs.declared.answer.Erase.TheVariants as erase
use Rattle.broom.specs.declared.answer.Erase.{Erase}
use Rattle.broom.specs.Ready.{view_of_broom, blocks_of_broom}

-- The broom had no spare, and the block is its spare: open and empty, one generation on
pub record Kept (v : View) (x : BroomBlocks) (o : ReclaimedBlock) (w : View) (y : BroomBlocks) : Type 0 where
  pub none : x.spare ≡ None
  pub changed : w ≡ record v { owns = with_owned (owned_of (record { block = o.block; generation = o.generation + 1; written = 0 })) v.owns }
  pub blocks : y ≡ record x { spare = Some (record { block = o.block; generation = o.generation + 1; written = 0 }); reclaiming = Nothing }

-- The broom had a spare, and gave the block up free, one generation on
pub record Freed (v : View) (x : BroomBlocks) (o : ReclaimedBlock) (w : View) (y : BroomBlocks) : Type 0 where
  pub spare : (e : OpenBlock) × (x.spare ≡ Some e)
  pub changed : w ≡ left_free v o
  pub blocks : y ≡ record x { reclaiming = Nothing }

-- The state of this block was loaded as one that isn't drained, and nothing else was done
pub record FoundStale (v : View) (b : ℕ) (w : View) : Type 0 where
  pub state : PinWord
  pub fits : FitsPin state
  pub undrained : ¬ (state.phase ≡ Drained)
  pub changed : w ≡ record v { loaded = v.loaded ++ (b, pin_word state) ∷ []; stale = v.stale ++ b ∷ [] }

-- The state of this block was loaded as drained, and the block is busy: it had readers, or its word had changed before it could be
-- condemned. Nothing else was done
pub record FoundPinned (v : View) (b : ℕ) (w : View) : Type 0 where
  pub state : PinWord
  pub fits : FitsPin state
  pub drained : state.phase ≡ Drained
  pub changed : w ≡ record v { loaded = v.loaded ++ (b, pin_word state) ∷ []; busy = v.busy ++ b ∷ [] }

-- This state of the block was loaded as drained and without readers, and in it the block was condemned: its erase is listed, and all of its
-- words were wiped. The broom now owns these blocks, and has given up those
pub record DidErase (v : View) (b : ℕ) (state : PinWord) (owns ceded : List Owned) (w : View) : Type 0 where
  pub fits : FitsPin state
  pub drained : state.phase ≡ Drained
  pub unread : state.readers ≡ 0
  pub changed : w ≡ record v {
    loaded = v.loaded ++ (b, pin_word state) ∷ [];
    erases = v.erases ++ record { block = b; generation = state.generation } ∷ [];
    wiped = words_in_block v.numbers;
    owns = owns;
    ceded = ceded;
  }

-- a block as a new generation begins: open, with nothing written
abbrev pub renewed : ℕ → PinWord → OpenBlock
renewed b state = record { block = b; generation = state.generation + 1; written = 0 }

-- The block was erased and has another generation left. The broom had no spare, and the block is its spare now
pub record DidKeep (v : View) (x : BroomBlocks) (b : ℕ) (w : View) (y : BroomBlocks) : Type 0 where
  pub state : PinWord
  pub erased : DidErase v b state (owned_of (renewed b state) ∷ v.owns) v.ceded w
  pub another : state.generation + 1 < v.numbers.endurance
  pub none : x.spare ≡ None
  pub blocks : y ≡ record x { spare = Some (renewed b state) }

-- The block was erased and has another generation left. The broom had a spare, owns what it owned before, and gave the block up free
pub record DidFree (v : View) (x : BroomBlocks) (b : ℕ) (w : View) (y : BroomBlocks) : Type 0 where
  pub state : PinWord
  pub erased : DidErase v b state v.owns (v.ceded ++ freed_as (owned_as b state Erasing) ∷ []) w
  pub another : state.generation + 1 < v.numbers.endurance
  pub spare : (o : OpenBlock) × (x.spare ≡ Some o)
  pub blocks : y ≡ x

-- The block was erased in its last generation. The broom owns what it owned before, and gave the block up retired
pub record DidRetire (v : View) (x : BroomBlocks) (b : ℕ) (w : View) (y : BroomBlocks) : Type 0 where
  pub state : PinWord
  pub erased : DidErase v b state v.owns (v.ceded ++ owned_as b state Retired ∷ []) w
  pub last : state.generation + 1 ≡ v.numbers.endurance
  pub blocks : y ≡ x

-- What each result of an erase of this block means. An erase doesn't use the queue
abbrev pub EraseTold : Broom → ℕ → Erase → Broom → Type 0
EraseTold before b (erase.Erased block true) after =
    (block ≡ b) × DidKeep (view_of_broom before) (blocks_of_broom before) b (view_of_broom after) (blocks_of_broom after)
EraseTold before b (erase.Erased block false) after =
    (block ≡ b) × DidFree (view_of_broom before) (blocks_of_broom before) b (view_of_broom after) (blocks_of_broom after)
EraseTold before b (erase.Retired block) after =
    (block ≡ b) × DidRetire (view_of_broom before) (blocks_of_broom before) b (view_of_broom after) (blocks_of_broom after)
EraseTold before b erase.Pinned after = FoundPinned (view_of_broom before) b (view_of_broom after) × (blocks_of_broom after ≡ blocks_of_broom before)
EraseTold before b erase.Stale after = FoundStale (view_of_broom before) b (view_of_broom after) × (blocks_of_broom after ≡ blocks_of_broom before)
EraseTold before b erase.QueueEmpty after = ⊥
