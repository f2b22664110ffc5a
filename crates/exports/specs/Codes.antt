-- The codes of the results and the faults of the layers below, and what a code says of a result.
use Rattle.std.specs.Prelude.{ℕ, ◌==◌, if◌then◌else◌, Bool, true, false}
use Rattle.geometry.specs.declared.answer.Got.{Got}
use Rattle.geometry.specs.declared.answer.Got.TheVariants as got
use Rattle.geometry.specs.declared.answer.Was.{Was}
use Rattle.geometry.specs.declared.answer.Was.TheVariants as was
use Rattle.geometry.specs.declared.limits.GeometryFault.{GeometryFault}
use Rattle.geometry.specs.declared.limits.GeometryFault.TheVariants as fault
use Rattle.broom.specs.declared.answer.Drain.{Drain}
use Rattle.broom.specs.declared.answer.Drain.TheVariants as drain
use Rattle.broom.specs.declared.answer.Erase.{Erase}
use Rattle.broom.specs.declared.answer.Erase.TheVariants as erase
use Rattle.exports.specs.declared.codes.TheConstants.{DONE, WRITTEN, NOTHING_TO_GAIN, NO_SPARE, LOST, RETIRED, PINNED, STALE, KEPT}
use Rattle.exports.specs.declared.codes.TheConstants.{BAD_LUNS, BAD_BLOCKS, BAD_PAGES, BAD_WORDS, BAD_SECTORS, BAD_ENDURANCE, BAD_SEATS}
use Rattle.exports.specs.declared.codes.TheConstants.{TOO_MANY_WORDS, TOO_FEW_BLOCKS}

-- the code of what a sector was
abbrev pub was_code : Was → ℕ
was_code was.Empty = DONE
was_code was.Written = WRITTEN

-- the code of a fault of a geometry
abbrev pub fault_code : GeometryFault → ℕ
fault_code fault.Luns = BAD_LUNS
fault_code fault.Blocks = BAD_BLOCKS
fault_code fault.Pages = BAD_PAGES
fault_code fault.Words = BAD_WORDS
fault_code fault.Sectors = BAD_SECTORS
fault_code fault.Endurance = BAD_ENDURANCE
fault_code fault.Passes = BAD_SEATS
fault_code fault.TooManyWords = TOO_MANY_WORDS
fault_code fault.TooFewBlocks = TOO_FEW_BLOCKS

-- a test as a number of C
abbrev pub as_number : Bool → ℕ
as_number true = 1
as_number false = 0

-- the code of a drain's answer; a drain of C sets no block aside, so it finds no full queue
abbrev pub drain_code : Drain → ℕ
drain_code (drain.Drained block copied) = DONE
drain_code drain.NothingToGain = NOTHING_TO_GAIN
drain_code drain.NoSpare = NO_SPARE
drain_code drain.Lost = LOST
drain_code drain.QueueFull = LOST

-- the code of an erase's answer; an erase of C names its block, so it finds no empty queue
abbrev pub erase_code : Erase → ℕ
erase_code (erase.Erased block true) = KEPT
erase_code (erase.Erased block false) = DONE
erase_code (erase.Retired block) = RETIRED
erase_code erase.Pinned = PINNED
erase_code erase.Stale = STALE
erase_code erase.QueueEmpty = STALE

-- the code of a restock, by whether the broom has a spare now
abbrev pub restock_code : Bool → ℕ
restock_code true = DONE
restock_code false = NO_SPARE

-- what a read found, by its code
abbrev pub got_by : ℕ → Got
got_by n = if n == DONE then got.Empty else got.Data

-- whether a sector is written, by the code of a look
abbrev pub written_by : ℕ → Bool
written_by n = n == WRITTEN

-- what a sector was, by the code of a call
abbrev pub was_by : ℕ → Was
was_by n = if n == DONE then was.Empty else was.Written

-- what a drain answered, by its code and what it wrote
abbrev pub drain_by : ℕ → ℕ → ℕ → Drain
drain_by n block moved = if n == DONE then drain.Drained block moved
    else (if n == NOTHING_TO_GAIN then drain.NothingToGain else (if n == NO_SPARE then drain.NoSpare else drain.Lost))

-- what an erase answered, by its code
abbrev pub erase_by : ℕ → ℕ → Erase
erase_by n block = if n == DONE then erase.Erased block false else (if n == KEPT then erase.Erased block true
    else (if n == RETIRED then erase.Retired block else (if n == PINNED then erase.Pinned else erase.Stale)))

-- whether a broom has a spare, by the code of a restock
abbrev pub stocked_by : ℕ → Bool
stocked_by n = n == DONE
