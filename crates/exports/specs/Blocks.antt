-- What a broom reports of the blocks of its device.
use Rattle.std.specs.Prelude.{◌≡◌, ℕ, ◌==◌, ◌&&◌, if◌then◌else◌, nat_le, Bool}
use Rattle.geometry.specs.Geometry.{blocks_of, brooms_of}
use Rattle.geometry.specs.declared.geometry.Geometry.{Geometry}
use Rattle.geometry.specs.declared.words.Phase.{Phase}
use Rattle.geometry.specs.declared.words.Phase.TheVariants as phase
use Rattle.geometry.specs.declared.words.PinWord.{PinWord}
use Rattle.broom.specs.Loading.{StateLoaded, erases_in}
use Rattle.broom.specs.declared.block_counts.BlockCounts.{BlockCounts}
use Rattle.broom.specs.declared.broom.Broom.{Broom}
use Rattle.exports.specs.declared.codes.TheConstants.{DONE, EXHAUSTED, NO_SUCH_BLOCK}
use Rattle.exports.specs.declared.shared.phases.TheConstants.{PHASE_FREE, PHASE_OPEN, PHASE_CLOSED, PHASE_VICTIM, PHASE_DRAINED, PHASE_ERASING, PHASE_RETIRED}
use Rattle.exports.specs.declared.reports.CountsReport.{CountsReport}
use Rattle.exports.specs.declared.reports.StateReport.{StateReport}

-- a phase as a number of C
abbrev pub phase_number : Phase → ℕ
phase_number phase.Free = PHASE_FREE
phase_number phase.Open = PHASE_OPEN
phase_number phase.Closed = PHASE_CLOSED
phase_number phase.Victim = PHASE_VICTIM
phase_number phase.Drained = PHASE_DRAINED
phase_number phase.Erasing = PHASE_ERASING
phase_number phase.Retired = PHASE_RETIRED

-- the report on a block in this state
abbrev pub state_report : PinWord → StateReport
state_report p = record { phase = phase_number p.phase; readers = p.readers; written = p.written; erases = erases_in p }

-- a block was loaded, and this is the report on it
abbrev pub BlockReported : Broom → ℕ → StateReport → Broom → Type 0
BlockReported before b report after = (p : PinWord) × StateLoaded before b p after × (report ≡ state_report p)

-- the code of a report on a block
abbrev pub block_code : Geometry → ℕ → ℕ
block_code g b = if nat_le (blocks_of g) b then NO_SUCH_BLOCK else DONE

-- the report with these counts, of a broom that has a spare or not
abbrev pub counts_report : BlockCounts → ℕ → CountsReport
counts_report c spares = record {
  erases = c.erases;
  free = c.free;
  «open» = c.«open»;
  closed = c.closed;
  victims = c.victims;
  drained = c.drained;
  erasing = c.erasing;
  retired = c.retired;
  spares = spares;
}

-- no block is free, and none can become free: the one broom of the device has no block to copy to, and no block is to be erased
abbrev pub is_exhausted : Geometry → CountsReport → Bool
is_exhausted g r = brooms_of g == 1 && r.spares == 0 && r.free == 0 && r.victims == 0 && r.drained == 0 && r.erasing == 0

-- the code of the counts
abbrev pub counts_code : Geometry → CountsReport → ℕ
counts_code g r = if is_exhausted g r then EXHAUSTED else DONE
