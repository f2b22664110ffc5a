-- What loads of blocks' states record and count, one more at a time, and what they leave of the broom's last survey.
use Rattle.std.specs.Prelude.{◌≡◌, ℕ, ◌⊎◌, ◌+◌, ◌==◌, if◌then◌else◌, All, List, ◌++◌, Some, count_by, length, slice_get, sum_by, ◌<◌}
use Rattle.geometry.specs.Greedy.{IsClosed}
use Rattle.geometry.specs.Limits.{Numbers}
use Rattle.geometry.specs.Words.{phase_bits, pin_word}
use Rattle.geometry.specs.declared.words.Phase.TheVariants as phase
use Rattle.geometry.specs.declared.words.Phase.{Phase}
use Rattle.geometry.specs.declared.words.PinWord.{PinWord}
use Rattle.flash_rule.specs.BroomPlays.{Loaded}
use Rattle.broom.specs.declared.broom.Broom.{Broom}
use Rattle.broom.specs.declared.block_counts.BlockCounts.{BlockCounts}
use Rattle.broom.specs.Ready.{IsInRange, view_of_broom, blocks_of_broom, marks_of}
use Rattle.broom.specs.Survey.{loads_of}
use Rattle.broom.specs.Told.{KeepsSurvey, Unmarks, counts_kept, states_kept}

-- the survey that the broom made last has this state of the block
abbrev pub HasState : Broom → ℕ → PinWord → Type 0
HasState broom b p = slice_get (states_kept broom) b ≡ Some p

-- The block was loaded in this state. The broom keeps its last survey; only if that has another state of the block may the block be unmarked
pub record StateLoaded (before : Broom) (b : ℕ) (p : PinWord) (after : Broom) : Type 0 where
  pub loaded : Loaded (view_of_broom before) b (pin_word p) (view_of_broom after)
  pub blocks : blocks_of_broom after ≡ blocks_of_broom before
  pub survey : KeepsSurvey before after ⊎ (¬ (HasState before b p) × Unmarks before b after)

-- the erases that a block in this state has had: a retired one has had one more than its generation
abbrev pub erases_in : PinWord → ℕ
erases_in p = p.generation + (if phase_bits p.phase == phase_bits phase.Retired then 1 else 0)

-- how many of these states have this phase
abbrev pub in_phase : Phase → List PinWord → ℕ
in_phase f states = count_by (λ p. phase_bits p.phase == phase_bits f) states

-- the counts of these states
abbrev pub counts_in : List PinWord → BlockCounts
counts_in states = record {
  erases = sum_by erases_in states;
  free = in_phase phase.Free states;
  «open» = in_phase phase.Open states;
  closed = in_phase phase.Closed states;
  victims = in_phase phase.Victim states;
  drained = in_phase phase.Drained states;
  erasing = in_phase phase.Erasing states;
  retired = in_phase phase.Retired states;
}

-- The broom keeps its last survey, and the mark of each block of which the survey has the same state as these. No block is marked anew
pub record KeepsMarks (before : Broom) (loaded : List PinWord) (after : Broom) : Type 0 where
  pub states : states_kept after ≡ states_kept before
  pub counts : counts_kept after ≡ counts_kept before
  pub kept : (b : ℕ) (p : PinWord) → slice_get loaded b ≡ Some p → HasState before b p → IsClosed (marks_of before) b → IsClosed (marks_of after) b
  pub only : (b : ℕ) → IsClosed (marks_of after) b → IsClosed (marks_of before) b

-- Each block was loaded once, in order, in these states
pub record AllLoaded (z : Numbers) (before : Broom) (states : List PinWord) (after : Broom) : Type 0 where
  pub whole : length states ≡ z.blocks
  pub ranges : All (IsInRange z) states
  pub loaded : (view_of_broom after).loaded ≡ (view_of_broom before).loaded ++ loads_of states
  pub changed : view_of_broom after
      ≡ record (view_of_broom before) {
        loaded = (view_of_broom after).loaded;
        busy = (view_of_broom after).busy;
        stale = (view_of_broom after).stale;
      }
  pub blocks : blocks_of_broom after ≡ blocks_of_broom before
  pub survey : KeepsMarks before states after

-- one if the block has this phase
abbrev pub one_in : Phase → PinWord → ℕ
one_in f p = if phase_bits p.phase == phase_bits f then 1 else 0

-- the counts with one block more
abbrev pub counted_one : PinWord → BlockCounts → BlockCounts
counted_one p c = record {
  erases = c.erases + erases_in p;
  free = c.free + one_in phase.Free p;
  «open» = c.«open» + one_in phase.Open p;
  closed = c.closed + one_in phase.Closed p;
  victims = c.victims + one_in phase.Victim p;
  drained = c.drained + one_in phase.Drained p;
  erasing = c.erasing + one_in phase.Erasing p;
  retired = c.retired + one_in phase.Retired p;
}

-- No count of blocks is so high that one more does not fit, nor are the erases with those of this block
pub record FitsOneMore (p : PinWord) (c : BlockCounts) : Type 0 where
  pub generation : p.generation < 4294967295
  pub erases : c.erases < 9223372036854775808
  pub free : c.free < 4294967295
  pub «open» : c.«open» < 4294967295
  pub closed : c.closed < 4294967295
  pub victims : c.victims < 4294967295
  pub drained : c.drained < 4294967295
  pub erasing : c.erasing < 4294967295
  pub retired : c.retired < 4294967295
