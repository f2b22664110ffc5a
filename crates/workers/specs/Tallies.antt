-- What a broom has done, counted, and what it knows to have done, as its calls are counted.
use Rattle.std.specs.Prelude.{◌≡◌, ℕ, ◌+◌, List, ◌++◌, length, ◌%◌, ◌^◌, [], ◌∷◌}
use Rattle.flash_rule.specs.declared.view.View.{View}
use Rattle.workers.specs.declared.collector.tally.Tally.{Tally}
use Rattle.broom.specs.Emptying.{count_if}
use Rattle.broom.specs.declared.answer.Drain.TheVariants as drain
use Rattle.broom.specs.declared.answer.Drain.{Drain}
use Rattle.broom.specs.declared.answer.Erase.TheVariants as erase
use Rattle.broom.specs.declared.answer.Erase.{Erase}
use Rattle.workers.specs.declared.collector.broom_answer.BroomAnswer.TheVariants as by
use Rattle.workers.specs.declared.collector.broom_answer.BroomAnswer.{BroomAnswer}

-- the list has this many entries more
abbrev pub GrowsBy : {X : Type 0} → ℕ → List X → List X → Type 0
GrowsBy {X} n before after = (more : List X) × (after ≡ before ++ more) × (length more ≡ n)

-- the blocks that a view lists as busy: drained ones that could not be condemned
abbrev pub busy_in : View → List ℕ
busy_in v = v.busy

-- the blocks that a view lists as stale: ones that weren't drained
abbrev pub stale_in : View → List ℕ
stale_in v = v.stale

-- The view of the same role has grown by what was counted: by that many blocks drained, pages moved, pages programmed, blocks erased and
-- claims lost
pub record HasGrown (v : View) (count : Tally) (w : View) : Type 0 where
  pub role : w.role ≡ v.role
  pub drains : GrowsBy count.drained v.drains w.drains
  pub moves : w.moves ≡ v.moves + count.moved
  pub programs : GrowsBy count.programmed v.programs w.programs
  pub erases : GrowsBy count.erased v.erases w.erases
  pub lost : GrowsBy count.lost v.lost w.lost

-- nothing was done
abbrev pub nothing_done : Tally
nothing_done = record { drained = 0; moved = 0; programmed = 0; erased = 0; kept = 0; retired = 0; lost = 0; pinned = 0; stale = 0; gainless = 0 }

-- what a drain with this result adds: a block that was drained and its pages that were moved, or a claim that was lost
abbrev pub drain_adds : Drain → Tally
drain_adds (drain.Drained block copied) = record nothing_done { drained = 1; moved = copied }
drain_adds drain.NothingToGain = nothing_done
drain_adds drain.NoSpare = nothing_done
drain_adds drain.Lost = record nothing_done { lost = 1 }
drain_adds drain.QueueFull = nothing_done

-- what a drain by a new survey adds: also a survey that shows nothing to gain
abbrev pub survey_adds : Drain → Tally
survey_adds (drain.Drained block copied) = drain_adds (drain.Drained block copied)
survey_adds drain.NothingToGain = record nothing_done { gainless = 1 }
survey_adds drain.NoSpare = nothing_done
survey_adds drain.Lost = drain_adds drain.Lost
survey_adds drain.QueueFull = nothing_done

-- what an erase with this result adds: an erased block, kept or not or retired, or one that had readers, or one that wasn't drained
abbrev pub erase_adds : Erase → Tally
erase_adds (erase.Erased block kept) = record nothing_done { erased = 1; kept = count_if kept }
erase_adds (erase.Retired block) = record nothing_done { erased = 1; retired = 1 }
erase_adds erase.Pinned = record nothing_done { pinned = 1 }
erase_adds erase.Stale = record nothing_done { stale = 1 }
erase_adds erase.QueueEmpty = nothing_done

-- what a call with this result adds; a drain also has the number of pages that it programmed for copies
abbrev pub answer_adds : BroomAnswer → Tally
answer_adds (by.Drain given programmed) = record (survey_adds given) { programmed = programmed }
answer_adds (by.DrainNext given programmed) = record (drain_adds given) { programmed = programmed }
answer_adds (by.DrainDead given) = survey_adds given
answer_adds (by.Erase given) = erase_adds given
answer_adds (by.Restock given) = nothing_done

-- two tallies added
abbrev pub added : Tally → Tally → Tally
added s t = record {
  drained = s.drained + t.drained;
  moved = s.moved + t.moved;
  programmed = s.programmed + t.programmed;
  erased = s.erased + t.erased;
  kept = s.kept + t.kept;
  retired = s.retired + t.retired;
  lost = s.lost + t.lost;
  pinned = s.pinned + t.pinned;
  stale = s.stale + t.stale;
  gainless = s.gainless + t.gainless;
}

-- what all calls of a list add
abbrev pub total_of : List BroomAnswer → Tally
total_of [] = nothing_done
total_of (answer ∷ answers) = added (answer_adds answer) (total_of answers)

-- a tally modulo 2 ^ 64
abbrev pub wrapped : Tally → Tally
wrapped t = record {
  drained = t.drained % 2 ^ 64;
  moved = t.moved % 2 ^ 64;
  programmed = t.programmed % 2 ^ 64;
  erased = t.erased % 2 ^ 64;
  kept = t.kept % 2 ^ 64;
  retired = t.retired % 2 ^ 64;
  lost = t.lost % 2 ^ 64;
  pinned = t.pinned % 2 ^ 64;
  stale = t.stale % 2 ^ 64;
  gainless = t.gainless % 2 ^ 64;
}

-- these results were counted, and nothing else: modulo 2 ^ 64 the tally is the one before plus what they add
abbrev pub IsCounted : Tally → List BroomAnswer → Tally → Type 0
IsCounted before answers after = wrapped after ≡ wrapped (added before (total_of answers))
