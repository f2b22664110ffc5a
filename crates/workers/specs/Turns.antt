-- In which order a broom makes its calls, by their answers: one turn after another.
use Rattle.std.specs.Prelude.{◌≡◌, ◌-◌, ◌≤◌, ℕ, All, Bool, true, false, List, [], ◌∷◌, ◌++◌, ◌⊎◌, length}
use Rattle.std.specs.List.{flat_map}
use Rattle.broom.specs.declared.answer.Drain.{Drain}
use Rattle.broom.specs.declared.answer.Drain.TheVariants as drain
use Rattle.broom.specs.declared.answer.Erase.{Erase}
use Rattle.broom.specs.declared.answer.Erase.TheVariants as erase
use Rattle.workers.specs.declared.collector.broom_answer.BroomAnswer.{BroomAnswer}
use Rattle.workers.specs.declared.collector.broom_answer.BroomAnswer.TheVariants as by

-- whether no other drain by the same survey follows a drain with this result: there was nothing to gain, or no spare
abbrev pub is_last : Drain → Bool
is_last (drain.Drained block copied) = false
is_last drain.NothingToGain = true
is_last drain.NoSpare = true
is_last drain.Lost = false
is_last drain.QueueFull = false

-- whether a drain with this result drained a block
abbrev pub has_drained : Drain → Bool
has_drained (drain.Drained block copied) = true
has_drained drain.NothingToGain = false
has_drained drain.NoSpare = false
has_drained drain.Lost = false
has_drained drain.QueueFull = false

-- whether an erase with this result erased a block
abbrev pub has_erased : Erase → Bool
has_erased (erase.Erased block kept) = true
has_erased (erase.Retired block) = true
has_erased erase.Pinned = false
has_erased erase.Stale = false
has_erased erase.QueueEmpty = false

-- whether a call with this answer gained something: a block was drained or erased, or the broom has a spare after its search for one
abbrev pub has_gained : BroomAnswer → Bool
has_gained (by.Drain given programmed) = has_drained given
has_gained (by.DrainNext given programmed) = has_drained given
has_gained (by.DrainDead given) = has_drained given
has_gained (by.Erase given) = has_erased given
has_gained (by.Restock given) = given

-- whether a drain with this result found no spare
abbrev pub found_no_spare : Drain → Bool
found_no_spare (drain.Drained block copied) = false
found_no_spare drain.NothingToGain = false
found_no_spare drain.NoSpare = true
found_no_spare drain.Lost = false
found_no_spare drain.QueueFull = false

-- these are the answers of a search for a spare: of a restock, and then, exactly if that found none, of a drain of a block without live
-- pages
abbrev pub IsSearch : List BroomAnswer → Type 0
IsSearch answers = (answers ≡ by.Restock true ∷ []) ⊎ ((dead : Drain) × (answers ≡ by.Restock false ∷ by.DrainDead dead ∷ []))

-- These are the answers of what follows a drain with this result: of an erase, and then, exactly if the drain found no spare, of a search
-- for one
pub record Follows (given : Drain) (answers : List BroomAnswer) : Type 0 where
  pub erased : Erase
  pub spareless : found_no_spare given ≡ true → (search : List BroomAnswer) × IsSearch search × (answers ≡ by.Erase erased ∷ search)
  pub other : found_no_spare given ≡ false → answers ≡ by.Erase erased ∷ []

-- a drain of a turn: its result, how many pages it programmed for copies, and the answers of what followed it
pub record TurnDrain : Type 0 where
  pub given : Drain
  pub programmed : ℕ
  pub behind : List BroomAnswer
  pub follows : Follows given behind

-- the answers of a drain by a new survey, and of what followed it
abbrev pub by_new_survey : TurnDrain → List BroomAnswer
by_new_survey d = by.Drain d.given d.programmed ∷ d.behind

-- the answers of a drain by the survey that the broom made last, and of what followed it
abbrev pub by_last_survey : TurnDrain → List BroomAnswer
by_last_survey d = by.DrainNext d.given d.programmed ∷ d.behind

-- none of these drains, of which this one is the first, comes behind the last one by its survey
abbrev pub GoesOn : TurnDrain → List TurnDrain → Type 0
GoesOn d [] = Unit {0}
GoesOn d (next ∷ others) = (is_last d.given ≡ false) × GoesOn next others

-- These are the answers of one turn with this limit of drains: of a drain by a new survey, and then of drains by that survey, in all at most as
-- many as the limit or one, each with what followed it, and none behind the last one by its survey. A turn may end before its limit
pub record IsTurn (drains : ℕ) (answers : List BroomAnswer) : Type 0 where
  pub first : TurnDrain
  pub others : List TurnDrain
  pub few : length others ≤ drains - 1
  pub on : GoesOn first others
  pub are : answers ≡ by_new_survey first ++ flat_map by_last_survey others

-- these are the answers of some turns, one after another
pub record AreTurns (drains : ℕ) (answers : List BroomAnswer) : Type 0 where
  pub turns : List (List BroomAnswer)
  pub each : All (IsTurn drains) turns
  pub are : answers ≡ flat_map (λ turn. turn) turns
