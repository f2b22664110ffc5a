-- A modelled chip.
use Rattle.std.specs.Prelude.{◌≡◌, ◌≢◌, ◌⊎◌, ◌==◌, ◌&&◌, ◌||◌, ◌+◌, ◌-◌, ◌%◌, ◌^◌, nat_le, not, if◌then◌else◌}
use Rattle.std.specs.Prelude.{ℕ, Bool, true, false, List, Option, None, Some, Result, Ok, Err, OnOk, OnErr}
use Rattle.std.specs.Int.{bit_at}
use Rattle.geometry.specs.declared.page_addr.PageAddr.{PageAddr}
use Rattle.durable.specs.Flash.{PageContents, Erased, Torn, Version, Flash, SetsPage}
use Rattle.durable.specs.Commands.{IsSameFlash}
use Rattle.nand.specs.declared.chip.Chip.{Chip}
use Rattle.nand.specs.declared.chip.Cut.{Cut}
use Rattle.nand.specs.declared.chip.Cut.TheVariants as cut
use Rattle.nand.specs.declared.chip.Fate.{Fate}
use Rattle.nand.specs.declared.chip.Fate.TheVariants as fate
use Rattle.nand.specs.declared.flash.Fault.{Fault}
use Rattle.nand.specs.declared.flash.Fault.TheVariants as fault
use Rattle.nand.specs.declared.flash.Shape.{Shape}
use Rattle.nand.specs.declared.flash.Tally.{Tally}
use Rattle.nand.specs.Cells.{flash_in}

-- what the chip's pages hold
abbrev pub chip_flash : Chip → Flash
chip_flash chip = flash_in chip.blocks.items

-- how large the chip is
abbrev pub chip_shape : Chip → Shape
chip_shape chip = chip.shape

-- how many calls have ended with a fault, modulo 2^64
abbrev pub chip_faults : Chip → Fault → ℕ
chip_faults chip fault.Failed = chip.failures
chip_faults chip fault.PowerGone = chip.cuts

-- how many syncs have succeeded, modulo 2^64
abbrev pub chip_syncs : Chip → ℕ
chip_syncs chip = chip.syncs

-- how many commands of each kind have succeeded, modulo 2^64
abbrev pub chip_tally : Chip → Tally
chip_tally chip = chip.tally

-- of each block, whether it is marked bad
abbrev pub chip_bad : Chip → List Bool
chip_bad chip = chip.bad.items

-- how often each block was erased, modulo 2^64
abbrev pub chip_erases : Chip → List ℕ
chip_erases chip = chip.erases.items

-- how many programs broke the order of a block's pages, or named a programmed page, modulo 2^64
abbrev pub chip_violations : Chip → ℕ
chip_violations chip = chip.violations

-- nothing that a reader sees has changed beside the pages
pub record HasSameBesidePages (old new : Chip) : Type 0 where
  pub shape : chip_shape new ≡ chip_shape old
  pub bad : chip_bad new ≡ chip_bad old
  pub erases : chip_erases new ≡ chip_erases old
  pub failures : new.failures ≡ old.failures
  pub cuts : new.cuts ≡ old.cuts
  pub tally : chip_tally new ≡ chip_tally old
  pub syncs : chip_syncs new ≡ chip_syncs old
  pub violations : chip_violations new ≡ chip_violations old

-- nothing that a reader sees has changed
pub record HasSame (old new : Chip) : Type 0 where
  pub flash : chip_flash new ≡ chip_flash old
  pub beside : HasSameBesidePages old new

-- a page is filled, or the command left nothing of it, a torn page, or all of it
abbrev pub Sets : {T : Type 0} → Result T Fault → Flash → Flash → PageAddr → PageContents → Type 0
Sets {T} result f t at contents =
    OnOk result (SetsPage f t at.block at.page contents)
    × OnErr result (IsSameFlash f t ⊎ SetsPage f t at.block at.page Torn ⊎ SetsPage f t at.block at.page contents)

-- whether the chip has power, how many commands it was given, in which the power goes, and which fail: from which one on, and a mask of them
pub record Schedule : Type 0 where
  pub powered : Bool
  pub commands : ℕ
  pub cut : Option (ℕ × Cut)
  pub failing : Option (ℕ × ℕ)

-- the schedule of a chip
abbrev pub schedule_of : Chip → Schedule
schedule_of chip = record { powered = chip.powered; commands = chip.commands; cut = chip.cut; failing = chip.failing }

-- a call that is no command leaves the pages and the schedule, and what is counted of commands
pub record IsNoCommand (old new : Chip) : Type 0 where
  pub flash : chip_flash new ≡ chip_flash old
  pub schedule : schedule_of new ≡ schedule_of old
  pub shape : chip_shape new ≡ chip_shape old
  pub erases : chip_erases new ≡ chip_erases old
  pub tally : chip_tally new ≡ chip_tally old
  pub violations : chip_violations new ≡ chip_violations old

-- the cut that falls in this command
abbrev pub cut_in : Option (ℕ × Cut) → ℕ → Option Cut
cut_in None n = None
cut_in (Some at) n = if at.0 == n then Some at.1 else None

-- whether this command is one of those that fail: bit i of the mask says it of the i-th after the first
abbrev pub fails_in : Option (ℕ × ℕ) → ℕ → Bool
fails_in None n = false
fails_in (Some at) n = nat_le at.0 n && bit_at at.1 (n - at.0) == 1

-- what comes of a command in which this cut falls, or none, and which fails or doesn't
abbrev pub fate_with : Option Cut → Bool → Fate
fate_with (Some cut) fails = fate.Cut cut
fate_with None fails = if fails then fate.Fails else fate.Done

-- what comes of the next command: nothing without power; the cut that falls in it; or its failure
abbrev pub coming : Schedule → Fate
coming s = if s.powered then fate_with (cut_in s.cut s.commands) (fails_in s.failing s.commands) else fate.Cut cut.Nothing

-- the schedule after a command in which this cut falls, or none: a cut takes the power away, and falls once
abbrev pub schedule_with : Schedule → Option Cut → Schedule
schedule_with s (Some cut) = record { powered = false; commands = (s.commands + 1) % 2 ^ 64; cut = None; failing = s.failing }
schedule_with s None = record { powered = true; commands = (s.commands + 1) % 2 ^ 64; cut = s.cut; failing = s.failing }

-- the schedule after the next command: without power nothing is counted
abbrev pub after_command : Schedule → Schedule
after_command s = if s.powered then schedule_with s (cut_in s.cut s.commands) else s

-- how a command ends of which this comes. A lack of memory is told as a failure
abbrev pub Ends : Fate → Result (Unit {0}) Fault → Type 0
Ends fate.Done result = result ≢ Err fault.PowerGone
Ends fate.Fails result = result ≡ Err fault.Failed
Ends (fate.Cut cut) result = result ≢ Ok tt

-- whether a page is erased
abbrev pub is_erased : PageContents → Bool
is_erased Erased = true
is_erased Torn = false
is_erased (Version extent number value) = false

-- ONFI 4.0, Page Program: whether a program may name this page. It is erased, and the page before it in the block is not
abbrev pub is_next_page : Flash → PageAddr → Bool
is_next_page f at = is_erased (f at.block at.page) && (at.page == 0 || not (is_erased (f at.block (at.page - 1))))

-- how many programs have broken that rule after one of which this comes: one more if it names another page, and neither fails nor is cut
abbrev pub violations_after : Fate → Bool → ℕ → ℕ
violations_after fate.Done is_next n = if is_next then n else (n + 1) % 2 ^ 64
violations_after fate.Fails is_next n = n
violations_after (fate.Cut cut) is_next n = n
