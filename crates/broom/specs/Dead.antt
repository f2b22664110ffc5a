-- What a drain of a block without live pages records in what its broom knows, before and after.
use Rattle.std.specs.Prelude.{◌≡◌, ℕ, ◌<◌, ◌≤◌, ◌⊎◌, Bool, List, [], ◌∷◌, ◌++◌, MatchBool, slice_index}
use Rattle.geometry.specs.Words.{map_word, FitsMap, FitsPin, pin_word}
use Rattle.geometry.specs.declared.words.MapWord.{MapWord}
use Rattle.geometry.specs.declared.words.PinWord.{PinWord}
use Rattle.geometry.specs.declared.words.Phase.TheVariants.{Closed, Drained}
use Rattle.flash_rule.specs.declared.view.View.{View}
use Rattle.flash_rule.specs.BroomPlays.{inspected_in, owned_as}
use Rattle.broom.specs.declared.broom.Broom.{Broom}
use Rattle.broom.specs.declared.answer.Drain.{Drain}
use Rattle.broom.specs.declared.answer.Drain.TheVariants as drain
use Rattle.broom.specs.Ready.{view_of_broom, blocks_of_broom}
use Rattle.broom.specs.Surveying.{Chosen, ChoseNone}
use Rattle.broom.specs.Told.{Unmarks, counts_kept}

-- The state that was loaded last is this block's, and it was closed
pub record HasLoadedClosed (v : View) (b : ℕ) (p : PinWord) : Type 0 where
  pub fits : FitsPin p
  pub closed : p.phase ≡ Closed
  pub earlier : List (ℕ × ℕ)
  pub loaded : v.loaded ≡ earlier ++ (b, pin_word p) ∷ []

-- what a broom knows that has loaded the state of a closed block
abbrev pub loaded_closed : View → ℕ → PinWord → View
loaded_closed v b p = record v { loaded = v.loaded ++ (b, pin_word p) ∷ []; stale = v.stale ++ b ∷ [] }

-- No sector has a page in the block in this generation, and only the inspection has changed
pub record PassedAll (v : View) (b generation : ℕ) (w : View) : Type 0 where
  pub changed : w ≡ record v { inspection = w.inspection }
  pub all : v.numbers.sectors ≤ inspected_in w.inspection b generation

-- or this sector has one, whose look is listed
pub record StoppedAt (v : View) (b generation : ℕ) (w : View) : Type 0 where
  pub sector : ℕ
  pub low : sector < v.numbers.sectors
  pub page : MapWord
  pub fits : FitsMap page
  pub block : page.block ≡ b
  pub same : page.generation ≡ generation
  pub changed : w ≡ record v { inspection = w.inspection; named = v.named ++ (sector, map_word page) ∷ [] }

-- how an inspection of a block in this state ends
abbrev pub InspectionEnds : View → ℕ → PinWord → Bool → View → Type 0
InspectionEnds v b p result w = MatchBool result (PassedAll v b p.generation w) (StoppedAt v b p.generation w)

-- The state of this block was loaded as one that isn't closed, and nothing else was done
pub record FoundOther (v : View) (b : ℕ) (w : View) : Type 0 where
  pub state : PinWord
  pub fits : FitsPin state
  pub other : ¬ (state.phase ≡ Closed)
  pub changed : w ≡ record v { loaded = v.loaded ++ (b, pin_word state) ∷ []; busy = w.busy; stale = w.stale }

-- The state of this block was loaded as closed, and a sector was found that has a page in it in its generation. Nothing else was done
pub record FoundInUse (v : View) (b : ℕ) (w : View) : Type 0 where
  pub state : PinWord
  pub fits : FitsPin state
  pub closed : state.phase ≡ Closed
  pub stopped : StoppedAt (loaded_closed v b state) b state.generation w

-- The state of this block was loaded as closed, no sector has a page in it, and the claim failed. Nothing else was done
pub record LostInspected (v : View) (b : ℕ) (w : View) : Type 0 where
  pub state : PinWord
  pub fits : FitsPin state
  pub closed : state.phase ≡ Closed
  pub passed : v.numbers.sectors ≤ inspected_in w.inspection b state.generation
  pub changed : w ≡ record (loaded_closed v b state) { inspection = w.inspection; lost = v.lost ++ b ∷ [] }

-- The state of this block was loaded as closed, no sector has a page in it, and it was drained in that state: the broom gave it up, and
-- nothing was copied
pub record DidDrainDead (v : View) (b : ℕ) (w : View) : Type 0 where
  pub state : PinWord
  pub fits : FitsPin state
  pub closed : state.phase ≡ Closed
  pub passed : v.numbers.sectors ≤ inspected_in w.inspection b state.generation
  pub changed : w ≡ record (loaded_closed v b state) {
    inspection = w.inspection;
    owns = w.owns;
    cleared = 0;
    drains = v.drains ++ record { block = b; generation = state.generation } ∷ [];
    ceded = v.ceded ++ owned_as b state Drained ∷ [];
  }

-- what each result of a drain of this block means, without a survey
abbrev pub InspectedTold : Broom → ℕ → Drain → Broom → Type 0
InspectedTold before b (drain.Drained block copied) after =
    (block ≡ b) × (copied ≡ 0) × DidDrainDead (view_of_broom before) b (view_of_broom after) × (blocks_of_broom after ≡ blocks_of_broom before)
InspectedTold before b drain.NothingToGain after = ⊥
InspectedTold before b drain.NoSpare after =
    (FoundOther (view_of_broom before) b (view_of_broom after) ⊎ FoundInUse (view_of_broom before) b (view_of_broom after))
    × (blocks_of_broom after ≡ blocks_of_broom before)
InspectedTold before b drain.Lost after = LostInspected (view_of_broom before) b (view_of_broom after) × (blocks_of_broom after ≡ blocks_of_broom before)
InspectedTold before b drain.QueueFull after = ⊥

-- A survey was made, this block is its victim, and the broom keeps its own blocks
pub record ChoseVictim (before : Broom) (b : ℕ) (after : Broom) : Type 0 where
  pub chosen : Chosen (view_of_broom before) b after
  pub blocks : blocks_of_broom after ≡ blocks_of_broom before

-- what each result of a drain of the victim of a survey means, if the victim has no live page by the survey. It isn't marked any more
abbrev pub DeadBySurvey : Broom → Drain → Broom → Type 0
DeadBySurvey before result after =
    (b : ℕ) × (r : Broom) × ChoseVictim before b r × (slice_index (counts_kept r) b ≡ 0) × InspectedTold r b result after × Unmarks r b after

-- a survey was made, and its victim has a live page
abbrev pub LiveBySurvey : Broom → Broom → Type 0
LiveBySurvey before after = (b : ℕ) × ChoseVictim before b after × (¬ (slice_index (counts_kept after) b ≡ 0))

-- What each result of a drain of a block without live pages means. The broom's own blocks are unchanged
abbrev pub DeadTold : Broom → Drain → Broom → Type 0
DeadTold before (drain.Drained block copied) after = DeadBySurvey before (drain.Drained block copied) after
DeadTold before drain.NothingToGain after = ChoseNone (view_of_broom before) after × (blocks_of_broom after ≡ blocks_of_broom before)
DeadTold before drain.NoSpare after = LiveBySurvey before after ⊎ DeadBySurvey before drain.NoSpare after
DeadTold before drain.Lost after = DeadBySurvey before drain.Lost after
DeadTold before drain.QueueFull after = ⊥
