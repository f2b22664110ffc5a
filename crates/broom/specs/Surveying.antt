-- The two parts of a survey, and the victim that is chosen.
use Rattle.std.specs.Prelude.{◌≡◌, ℕ, ◌<◌, All, List, Bool, ◌++◌, Option, IfSome, MatchOption, length}
use Rattle.geometry.specs.Greedy.{IsClosed}
use Rattle.geometry.specs.History.{Begins}
use Rattle.geometry.specs.Limits.{Numbers}
use Rattle.geometry.specs.Words.{FitsMap}
use Rattle.geometry.specs.declared.words.MapWord.{MapWord}
use Rattle.geometry.specs.declared.words.PinWord.{PinWord}
use Rattle.flash_rule.specs.declared.view.View.{View}
use Rattle.flash_rule.specs.Views.{AreOfHosts}
use Rattle.broom.specs.declared.broom.Broom.{Broom}
use Rattle.broom.specs.Survey.{Survey, IsVictim, counts_of, closed_of, loads_of, looks_of}
use Rattle.broom.specs.Ready.{IsInRange, view_of_broom}
use Rattle.broom.specs.Told.{GainedNothing, Surveyed, LeftSurvey}

-- The states of the blocks were loaded in order, and the closed ones are marked
pub record StatesLoaded (z : Numbers) (v : View) (states : List PinWord) (closed : List Bool) (w : View) : Type 0 where
  pub changed : w ≡ record v { loaded = v.loaded ++ loads_of states; busy = w.busy; stale = w.stale }
  pub ranges : All (IsInRange z) states
  pub marked : closed ≡ closed_of states

-- The sectors were looked at in order, and the live pages of each block are counted
pub record PagesCounted (v : View) (states : List PinWord) (counts : List ℕ) (w : View) : Type 0 where
  pub pages : List (Option MapWord)
  pub long : length pages ≡ v.numbers.sectors
  pub fits : All (λ page. IfSome page FitsMap) pages
  pub changed : w ≡ record v { seen = w.seen; named = v.named ++ looks_of pages }
  pub later : Begins v.seen w.seen
  pub callers : AreOfHosts v.numbers w.seen
  pub counted : counts ≡ counts_of (record { states = states; pages = pages })

-- A survey was made, which the broom keeps, and this block is its victim
pub record Chosen (v : View) (block : ℕ) (after : Broom) : Type 0 where
  pub survey : Survey
  pub made : Surveyed v survey (view_of_broom after)
  pub victim : IsVictim survey v.numbers.pages block
  pub kept : survey.states ≡ after.states.items
  pub counts : after.counts.items ≡ counts_of survey
  pub marks : after.closed.items ≡ closed_of survey.states
  pub low : block < length survey.states
  pub closed : IsClosed (closed_of survey.states) block
  pub ranges : All (IsInRange v.numbers) survey.states
  pub changed : view_of_broom after
      ≡ record v {
        seen = (view_of_broom after).seen;
        loaded = (view_of_broom after).loaded;
        named = v.named ++ looks_of survey.pages;
        busy = (view_of_broom after).busy;
        stale = (view_of_broom after).stale;
      }

-- A survey was made, which the broom keeps, and it shows nothing to gain
pub record ChoseNone (v : View) (after : Broom) : Type 0 where
  pub gained : GainedNothing v (view_of_broom after)
  pub left : (x : Survey) × LeftSurvey v x (closed_of x.states) after

-- a survey was made, and its victim chosen, or there was nothing to gain
abbrev pub Chooses : View → Option ℕ → Broom → Type 0
Chooses v victim after = MatchOption victim (ChoseNone v after) (λ block. Chosen v block after)
