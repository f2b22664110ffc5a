-- What a broom has done since it was made, counted.
use Rattle.std.specs.Prelude.{ℕ, ◌+◌, ◌%◌, ◌^◌, length}
use Rattle.broom.specs.declared.answer.Drain.{Drain}
use Rattle.broom.specs.declared.answer.Drain.TheVariants as drain
use Rattle.broom.specs.declared.answer.Erase.{Erase}
use Rattle.broom.specs.declared.answer.Erase.TheVariants as erase
use Rattle.broom.specs.declared.broom.Broom.{Broom}
use Rattle.broom.specs.Ready.{view_of_broom}
use Rattle.flash_rule.specs.declared.view.View.{View}
use Rattle.exports.specs.declared.reports.TallyReport.{TallyReport}

-- a number modulo 2 ^ 64
abbrev pub in_a_word : ℕ → ℕ
in_a_word n = n % 2 ^ 64

-- nothing was done
abbrev pub empty_tally : TallyReport
empty_tally = record { programs = 0; moved = 0; erases = 0 }

-- what is known to be done: how many pages were programmed, how many map words were exchanged for a copy's, and how many blocks were erased
abbrev pub tally_in : View → TallyReport
tally_in v = record { programs = in_a_word (length v.programs); moved = in_a_word v.moves; erases = in_a_word (length v.erases) }

-- what a broom has done
abbrev pub tally_of : Broom → TallyReport
tally_of b = tally_in (view_of_broom b)

-- the pages that a drain has moved, by its answer
abbrev pub moved_by : Drain → ℕ
moved_by (drain.Drained block copied) = copied
moved_by drain.NothingToGain = 0
moved_by drain.NoSpare = 0
moved_by drain.Lost = 0
moved_by drain.QueueFull = 0

-- the blocks that an erase has erased, by its answer
abbrev pub erased_by : Erase → ℕ
erased_by (erase.Erased block kept) = 1
erased_by (erase.Retired block) = 1
erased_by erase.Pinned = 0
erased_by erase.Stale = 0
erased_by erase.QueueEmpty = 0

-- a tally, and a drain that has programmed this many pages
abbrev pub with_drain : TallyReport → ℕ → Drain → TallyReport
with_drain t n answer = record t { programs = in_a_word (t.programs + n); moved = in_a_word (t.moved + moved_by answer) }

-- a tally, and an erase
abbrev pub with_erase : TallyReport → Erase → TallyReport
with_erase t answer = record t { erases = in_a_word (t.erases + erased_by answer) }
