-- Surveys, calls and counts of brooms, as the laws of brooms name them.
use Rattle.std.specs.Prelude.{◌≡◌, ◌≤◌, ℕ, List, [], ◌∷◌, ◌++◌, None, Some, true, false, slice_index}
use Rattle.geometry.specs.{Greedy.IsClosed, declared.words.MapWord.MapWord, declared.words.Phase.Phase, declared.words.PinWord.PinWord}
use Rattle.geometry.specs.declared.words.Phase.TheVariants as phase
use Rattle.flash_rule.specs.declared.{facts.Cycle.Cycle, view.View.View}
use Rattle.broom.specs.{declared.answer.Drain.Drain, declared.broom.Broom.Broom, Ready.blocks_of_broom, Ready.view_of_broom, Told.Surveyed}
use Rattle.broom.specs.Survey.{Survey, closed_of, counts_of}
use Rattle.broom.specs.declared.answer.Drain.TheVariants as drain
use Rattle.broom.specs.declared.answer.Erase.TheVariants as erase
use Rattle.flash_table.specs.declared.pass.OpenBlock.{OpenBlock}
use Rattle.workers.specs.declared.collector.{broom_answer.BroomAnswer.BroomAnswer, tally.Tally.Tally}
use Rattle.workers.specs.declared.collector.broom_answer.BroomAnswer.TheVariants as by

-- a block with two pages written and no reader, in this phase of this generation
abbrev pub two_written : Phase → ℕ → PinWord
two_written p generation = record { readers = 0; phase = p; written = 2; generation = generation }

-- a page in this generation of its block
abbrev pub a_page : ℕ → ℕ → ℕ → MapWord
a_page generation block page = record { generation = generation; block = block; page = page }

-- Two closed blocks, the first in its second generation, and an open one. One sector has a page of the first block, another one named a
-- page of it in its first generation, two have the pages of the second block, and one is empty
abbrev pub a_survey : Survey
a_survey = record {
  states = two_written phase.Closed 1 ∷ two_written phase.Closed 0 ∷ two_written phase.Open 0 ∷ [];
  pages = Some (a_page 1 0 0) ∷ Some (a_page 0 0 1) ∷ Some (a_page 0 1 0) ∷ Some (a_page 0 1 1) ∷ None ∷ [];
}

-- one closed block, all of whose pages are live
abbrev pub an_all_live_survey : Survey
an_all_live_survey = record { states = two_written phase.Closed 0 ∷ []; pages = Some (a_page 0 0 0) ∷ Some (a_page 0 0 1) ∷ [] }

-- by a survey that was made, no closed block had fewer live pages than this one, which was closed
pub record HadFewest (v : View) (block : ℕ) (w : View) : Type 0 where
  pub survey : Survey
  pub made : Surveyed v survey w
  pub closed : IsClosed (closed_of survey.states) block
  pub fewest : (k : ℕ) → IsClosed (closed_of survey.states) k → slice_index (counts_of survey) block ≤ slice_index (counts_of survey) k

-- the block was added to a list of generations of blocks
abbrev pub IsListed : ℕ → List Cycle → List Cycle → Type 0
IsListed block before after = (generation : ℕ) × (after ≡ before ++ record { block = block; generation = generation } ∷ [])

-- a broom has a spare
abbrev pub HasSpare : Broom → Type 0
HasSpare b = (o : OpenBlock) × ((blocks_of_broom b).spare ≡ Some o)

-- a broom has no spare
abbrev pub HasNone : Broom → Type 0
HasNone b = (blocks_of_broom b).spare ≡ None

-- a broom has drained this block, and no other
abbrev pub HasDrained : ℕ → Broom → Broom → Type 0
HasDrained block before after = IsListed block (view_of_broom before).drains (view_of_broom after).drains

-- a claim was added to a broom's lost ones
abbrev pub HasLost : Broom → Broom → Type 0
HasLost before after = (b : ℕ) × ((view_of_broom after).lost ≡ (view_of_broom before).lost ++ b ∷ [])

-- a broom has drained, programmed and erased nothing, and has given up no block
pub record DidNothing (before after : Broom) : Type 0 where
  pub drains : (view_of_broom after).drains ≡ (view_of_broom before).drains
  pub programs : (view_of_broom after).programs ≡ (view_of_broom before).programs
  pub erases : (view_of_broom after).erases ≡ (view_of_broom before).erases
  pub owns : (view_of_broom after).owns ≡ (view_of_broom before).owns
  pub ceded : (view_of_broom after).ceded ≡ (view_of_broom before).ceded

-- calls of a broom
abbrev pub some_calls : List BroomAnswer
some_calls =
    by.Drain (drain.Drained 3 2) 2 ∷ by.DrainNext (drain.Drained 4 0) 1 ∷ by.Drain drain.NothingToGain 0 ∷ by.DrainNext drain.NothingToGain
    0 ∷ by.Drain drain.Lost 0
    ∷ by.Erase (erase.Erased 3 true) ∷ by.Erase (erase.Erased 4 false) ∷ by.Erase
    (erase.Retired 5) ∷ by.Erase erase.Pinned ∷ by.Erase erase.Stale ∷ by.Erase erase.Stale
    ∷ by.Restock true ∷ by.DrainDead (drain.Drained 6 0) ∷ by.DrainDead drain.NothingToGain ∷ []

-- what they add
abbrev pub some_counts : Tally
some_counts = record { drained = 3; moved = 2; programmed = 3; erased = 3; kept = 1; retired = 1; lost = 1; pinned = 1; stale = 2; gainless = 2 }

-- the answers of two drains with these results, each with an erase that finds nothing behind it: one by a new survey, and one by that survey
abbrev pub two_drains : Drain → Drain → List BroomAnswer
two_drains first second = by.Drain first 1 ∷ by.Erase erase.QueueEmpty ∷ by.DrainNext second 0 ∷ by.Erase erase.QueueEmpty ∷ []
