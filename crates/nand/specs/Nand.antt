-- What a read may say of a page, and what a command leaves.
use Rattle.std.specs.Prelude.{◌≡◌, ◌+◌, ◌%◌, ◌^◌, ℕ, Bool, List, Option, None, Some, Result, Err, OnOk, OnErr, if◌then◌else◌}
use Rattle.geometry.specs.Sectors.{Sector}
use Rattle.durable.specs.declared.extent.Extent.{Extent}
use Rattle.durable.specs.declared.command.Command.{Command}
use Rattle.durable.specs.declared.command.Command.TheVariants.{Program, Copy, Erase, Refused}
use Rattle.durable.specs.declared.found.Stamp.{Stamp as Noted}
use Rattle.durable.specs.Flash.{Flash, PageContents, Erased, Torn, Version, is_trim}
use Rattle.durable.specs.Updates.{Covers}
use Rattle.durable.specs.Commands.{IsAllowed, Completes, CutLeaves}
use Rattle.nand.specs.declared.flash.Fault.{Fault}
use Rattle.nand.specs.declared.flash.Fault.TheVariants as fault
use Rattle.nand.specs.declared.flash.PowerGone.{PowerGone}
use Rattle.nand.specs.declared.flash.Reading.{Reading}
use Rattle.nand.specs.declared.flash.Reading.TheVariants as outcome
use Rattle.nand.specs.declared.flash.Tally.{Tally}

-- the value of a version: none after a trim, and otherwise its page's main bytes
abbrev pub value_with : Bool → List ℕ → Sector
value_with trimmed main = if trimmed then None else Some main

-- the stamp that a mount notes of a page that was read so
abbrev pub noted_of : Reading → Option Noted
noted_of (outcome.Version stamp) = Some (record { extent = stamp.extent; number = stamp.number; is_trim = stamp.trimmed })
noted_of outcome.Erased = None
noted_of outcome.Unreadable = None

-- the read found no version
abbrev pub IsNoVersion : Reading → Type 0
IsNoVersion (outcome.Version stamp) = ⊥
IsNoVersion outcome.Erased = Unit {0}
IsNoVersion outcome.Unreadable = Unit {0}

-- a version is read with its stamp, and an erased or torn page isn't read as a version
abbrev pub ReadsStamp : PageContents → Reading → Type 0
ReadsStamp (Version e n value) reading = reading ≡ outcome.Version (record { extent = e; number = n; trimmed = is_trim value })
ReadsStamp Erased reading = IsNoVersion reading
ReadsStamp Torn reading = IsNoVersion reading

-- a version with a value is read with its main bytes
abbrev pub ReadsMain : PageContents → List ℕ → Type 0
ReadsMain (Version e n (Some bytes)) main = main ≡ bytes
ReadsMain (Version e n None) main = Unit {0}
ReadsMain Erased main = Unit {0}
ReadsMain Torn main = Unit {0}

-- some page has a version of this sector with these bytes
abbrev pub HasBytes : Flash → ℕ → List ℕ → Type 0
HasBytes f s bytes =
    (b p : ℕ) × (e : Extent) × (n : ℕ) × Covers e s × (f b p ≡ Version e n (Some bytes))

-- a command that is allowed is done if it succeeds, and otherwise it leaves what a power cut inside it may leave
abbrev pub Performs : {T : Type 0} → Command → Extent → Sector → Result T Fault → Flash → Flash → Type 0
Performs {T} m extent value result f t =
    IsAllowed f m → OnOk result (Completes m extent value f t) × OnErr result (CutLeaves m extent value f t)

-- one command more of this kind, modulo 2^64, and none of the other kinds
abbrev pub tally_after : Command → Tally → Tally
tally_after (Program at n) tally = record tally { programs = (tally.programs + 1) % 2 ^ 64 }
tally_after (Copy k from to) tally = record tally { copies = (tally.copies + 1) % 2 ^ 64 }
tally_after (Erase b) tally = record tally { erases = (tally.erases + 1) % 2 ^ 64 }
tally_after Refused tally = tally

-- a command that succeeded is counted by its kind, and one that failed is not
abbrev pub CountsCommand : {T : Type 0} → Command → Tally → Tally → Result T Fault → Type 0
CountsCommand {T} m before now result = OnOk result (now ≡ tally_after m before) × OnErr result (now ≡ before)

-- the other one of the two faults
abbrev pub other_fault : Fault → Fault
other_fault fault.Failed = fault.PowerGone
other_fault fault.PowerGone = fault.Failed

-- one fault more is counted, modulo 2^64, and none of the other kind
abbrev pub CountsOne : (Fault → ℕ) → (Fault → ℕ) → Fault → Type 0
CountsOne before now cause = (now cause ≡ (before cause + 1) % 2 ^ 64) × (now (other_fault cause) ≡ before (other_fault cause))

-- success leaves the counts of faults as they were, and a fault is counted
abbrev pub CountsFault : {T : Type 0} → (Fault → ℕ) → (Fault → ℕ) → Result T Fault → Type 0
CountsFault {T} before now result =
    OnOk result ((cause : Fault) → now cause ≡ before cause) × ((cause : Fault) → result ≡ Err cause → CountsOne before now cause)

-- the same of a call that fails only if the power is gone
abbrev pub CountsCut : {T : Type 0} → (Fault → ℕ) → (Fault → ℕ) → Result T PowerGone → Type 0
CountsCut {T} before now result = OnOk result ((cause : Fault) → now cause ≡ before cause) × OnErr result (CountsOne before now fault.PowerGone)
