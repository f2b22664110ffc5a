-- What a broom does while the workers of a round play, one call after another, and the brooms' threads of a round.
use Rattle.workers.specs.declared.collector.Collector.{Collector}
use Rattle.workers.specs.declared.collector.broom_thread.BroomThread.{BroomThread}
use Rattle.std.specs.Prelude.{◌≡◌, ◌+◌, ◌-◌, ◌||◌, ℕ, Bool, List, [], ◌∷◌, length}
use Rattle.std.specs.Arc.{arc_value}
use Rattle.std.specs.List.{list_any}
use Rattle.erase_queue.specs.Queue.{limit_of}
use Rattle.flash_rule.specs.declared.view.View.{View}
use Rattle.broom.specs.declared.answer.Drain.{Drain}
use Rattle.broom.specs.declared.broom.Broom.{Broom}
use Rattle.broom.specs.Handing.{DrainDeadOneTold, DrainNextOneTold, DrainOneTold, EraseOneTold, HandsNothing}
use Rattle.broom.specs.Ready.{view_of_broom}
use Rattle.broom.specs.Told.{RestockTold, KeepsSurvey}
use Rattle.volume.specs.Volume.{queue_of}
use Rattle.workers.specs.declared.collector.broom_answer.BroomAnswer.TheVariants as by
use Rattle.workers.specs.declared.collector.broom_answer.BroomAnswer.{BroomAnswer}
use Rattle.workers.specs.Tallies.{GrowsBy, HasGrown, busy_in, stale_in, IsCounted, added, total_of, wrapped}
use Rattle.workers.specs.Turns.{AreTurns, Follows, IsSearch, IsTurn, has_drained, has_gained}

-- the broom that a thread was given
abbrev pub given_to : BroomThread → Collector
given_to t = t.handle.promise.before.value

-- A restock had this result. It doesn't use the queue, and the broom keeps its last survey
pub record HasRestocked (before : Broom) (given : Bool) (after : Broom) : Type 0 where
  pub told : RestockTold before given after
  pub queue : HandsNothing before after
  pub survey : KeepsSurvey before after

-- a broom programmed this many pages
abbrev pub HasProgrammed : ℕ → Broom → Broom → Type 0
HasProgrammed n before after = GrowsBy n (view_of_broom before).programs (view_of_broom after).programs

-- what each call of a broom means, by its result, if the queue has room for this many
abbrev pub CallTold : ℕ → Broom → BroomAnswer → Broom → Type 0
CallTold limit before (by.Drain given programmed) after = DrainOneTold limit before given after × HasProgrammed programmed before after
CallTold limit before (by.DrainNext given programmed) after = DrainNextOneTold limit before given after × HasProgrammed programmed before after
CallTold limit before (by.DrainDead given) after = DrainDeadOneTold limit before given after
CallTold limit before (by.Erase given) after = EraseOneTold limit before given after
CallTold limit before (by.Restock given) after = HasRestocked before given after

-- the broom made calls with these results, one after another, and did nothing else
abbrev pub HasMadeCalls : ℕ → Broom → List BroomAnswer → Broom → Type 0
HasMadeCalls limit before [] after = after ≡ before
HasMadeCalls limit before (answer ∷ answers) after = (next : Broom) × CallTold limit before answer next × HasMadeCalls limit next answers after

-- by how many entries a list of the broom's view has grown in a call, if that is an erase; what a survey lists isn't counted
abbrev pub listed_by_erase : (View → List ℕ) → Broom → BroomAnswer → Broom → ℕ
listed_by_erase list_of before (by.Drain given programmed) after = 0
listed_by_erase list_of before (by.DrainNext given programmed) after = 0
listed_by_erase list_of before (by.DrainDead given) after = 0
listed_by_erase list_of before (by.Erase given) after = length (list_of (view_of_broom after)) - length (list_of (view_of_broom before))
listed_by_erase list_of before (by.Restock given) after = 0

-- by how many it has grown in all erases among some calls, each from the broom before it to the one after it
abbrev pub listed_by_erases : (list_of : View → List ℕ) (limit : ℕ) (before : Broom) (answers : List BroomAnswer) (after : Broom)
    → HasMadeCalls limit before answers after → ℕ
listed_by_erases list_of limit before [] after calls = 0
listed_by_erases list_of limit before (answer ∷ answers) after calls =
    listed_by_erase list_of before answer calls.0 + listed_by_erases list_of limit calls.0 answers after calls.2

-- how many drained blocks the queue of the broom's device has room for
abbrev pub limit_at : Collector → ℕ
limit_at s = limit_of (queue_of (arc_value s.volume))

-- The broom is the same one, at the same device, with the same limit of drains: it made calls with these results, and did nothing else.
-- They were counted, also exactly if the count before was one modulo 2 ^ 64, and their count was added to what it knows to have done. The
-- pinned blocks that were counted are those that the erases listed as busy, and the stale ones those that they listed as stale
pub record HasCollectedBy (before : Collector) (answers : List BroomAnswer) (after : Collector) : Type 0 where
  pub volume : arc_value after.volume ≡ arc_value before.volume
  pub drains : after.drains ≡ before.drains
  pub calls : HasMadeCalls (limit_at before) before.broom answers after.broom
  pub counted : IsCounted before.tally answers after.tally
  pub exact : before.tally ≡ wrapped before.tally → after.tally ≡ wrapped (added before.tally (total_of answers))
  pub grown : HasGrown (view_of_broom before.broom) (total_of answers) (view_of_broom after.broom)
  pub pinned : (total_of answers).pinned ≡ listed_by_erases busy_in (limit_at before) before.broom answers after.broom calls
  pub stale : (total_of answers).stale ≡ listed_by_erases stale_in (limit_at before) before.broom answers after.broom calls

-- A search for a spare was made, and nothing else was done. It is known whether it has gained something
pub record HasSearched (before : Collector) (gained : Bool) (after : Collector) : Type 0 where
  pub answers : List BroomAnswer
  pub search : IsSearch answers
  pub told : gained ≡ list_any has_gained answers
  pub collected : HasCollectedBy before answers after

-- What followed a drain with this result was done, and nothing else. It is known whether the drain or what followed it has gained something
pub record HasFollowed (before : Collector) (given : Drain) (gained : Bool) (after : Collector) : Type 0 where
  pub behind : List BroomAnswer
  pub follows : Follows given behind
  pub told : gained ≡ (has_drained given || list_any has_gained behind)
  pub collected : HasCollectedBy before behind after

-- The broom took one turn, within its limit of drains, and did nothing else. It is known whether it has gained something
pub record HasTakenTurn (before : Collector) (gained : Bool) (after : Collector) : Type 0 where
  pub answers : List BroomAnswer
  pub turn : IsTurn before.drains answers
  pub told : gained ≡ list_any has_gained answers
  pub collected : HasCollectedBy before answers after

-- The broom took some turns, one after another and each within its limit of drains, and did nothing else
pub record HasCollected (before after : Collector) : Type 0 where
  pub answers : List BroomAnswer
  pub turns : AreTurns before.drains answers
  pub collected : HasCollectedBy before answers after

-- each broom did so, in order
abbrev pub HaveCollected : List Collector → List Collector → Type 0
HaveCollected [] [] = Unit {0}
HaveCollected [] (s ∷ after) = ⊥
HaveCollected (s ∷ before) [] = ⊥
HaveCollected (s ∷ before) (t ∷ after) = HasCollected s t × HaveCollected before after
