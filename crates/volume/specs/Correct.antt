-- What holds of each read, look, write, write of an empty sector and trim, whatever other threads do during it: it is one step of an array
-- of sectors, at a place of one history that only grows, and not before anything that its pass had seen.
use Rattle.std.specs.Prelude.{◌≡◌, ℕ, Bool, List, [], ◌∷◌, ◌++◌, is_some}
use Rattle.geometry.specs.{Sectors.Answers, History.Call, History.held, History.was, History.Begins, declared.answer.Got.Got, declared.answer.Was.Was}
use Rattle.geometry.specs.History as call
use Rattle.flash_rule.specs.{Views.calls_of, declared.view.View.View}
use Rattle.flash_table.specs.{declared.pass.Pass.Pass, Flash.view_of, Steps.HasNumber}
use Rattle.volume.specs.{declared.volume.Volume.Volume, Volume.sectors}

-- what a pass may ask: the value of a sector, whether it has one, a new value for it, a value for it if it is empty, or that it become
-- empty
pub data Asked : Type 0 where
  Read : ℕ → Asked
  Look : ℕ → Asked
  Write : ℕ → List ℕ → Asked
  WriteNew : ℕ → List ℕ → Asked
  Trim : ℕ → Asked

-- what is returned: what was found, with the buffer before and after, whether the sector is written, or what it was
pub data Answer : Type 0 where
  Found : Got → List ℕ → List ℕ → Answer
  IsWritten : Bool → Answer
  Replaced : Was → Answer

-- the result that an array of this many sectors gives after a history
abbrev pub IsAnswerAt : ℕ → List Call → Asked → Answer → Type 0
IsAnswerAt n h (Read s) (Found got old new) = Answers (held n h s) got old new
IsAnswerAt n h (Look s) (IsWritten written) = written ≡ is_some (held n h s)
IsAnswerAt n h (Write s value) (Replaced was_there) = was_there ≡ was n h s
IsAnswerAt n h (WriteNew s value) (Replaced was_there) = was_there ≡ was n h s
IsAnswerAt n h (Trim s) (Replaced was_there) = was_there ≡ was n h s
IsAnswerAt _ _ _ _ = ⊥

-- the calls that a pass adds to the history by what it asks: a read and a look add none
abbrev pub calls_for : ℕ → Asked → List Call
calls_for t (Read s) = []
calls_for t (Look s) = []
calls_for t (Write s value) = call.Write t s value ∷ []
calls_for t (WriteNew s value) = call.WriteNew t s value ∷ []
calls_for t (Trim s) = call.Trim t s ∷ []

-- what a pass knows of the history: how much of it it has seen, and its own calls in it
pub record Known : Type 0 where
  pub seen : List Call
  pub mine : List Call

-- how much of the history a pass has seen, and its own calls, from all that it knows
abbrev pub known_by : View → Known
known_by v = record { seen = v.seen; mine = v.mine }

-- What pass t asked was answered as one step of an array of n sectors: the result is that of the array at a place in the history, not
-- before anything that the pass had seen, and exactly the call that was asked is added there
pub record Correct (n t : ℕ) (asked : Asked) (answer : Answer) (old new : Known) : Type 0 where
  -- there is a place in the history, not before anything that the pass had seen
  pub place : List Call
  pub later : Begins old.seen place
  -- the result is the one of the array at that place
  pub answered : IsAnswerAt n place asked answer
  -- exactly the call that was asked is added there, and to the pass's own
  pub seen : new.seen ≡ place ++ calls_for t asked
  pub mine : new.mine ≡ old.mine ++ calls_for t asked
  -- and of all that the pass sees, the calls of its own are those that it made, each once
  pub own : calls_of t new.seen ≡ new.mine

-- what a pass of a volume asked was answered so, as one step of the array of its sectors
abbrev pub Does : Volume → Pass → Asked → Answer → Pass → Type 0
Does volume old asked answer new =
    (t : ℕ) → HasNumber t old → Correct (sectors volume) t asked answer (known_by (view_of old)) (known_by (view_of new))
