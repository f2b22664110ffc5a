-- What the steps of parsing make of one record.
use Rattle.std.specs.Prelude.{◌≡◌, ℕ, List, [], ◌∷◌, ◌++◌, drop, map, Result, Ok, Err, ◌⊎◌}
use Rattle.geometry.specs.declared.geometry.Geometry.{Geometry}
use Rattle.trace.specs.{Trace.checked, Trace.command_of, Trace.records_of, Trace.whole_fault, declared.fault.TraceFaultKind.TraceFaultKind}
use Rattle.trace.specs.declared.{commands.Command.Command, commands.Op.Op, fault.TraceFault.TraceFault}
use Rattle.trace.specs.declared.commands.Op.TheVariants as op
use Rattle.trace.specs.declared.fault.TraceFaultKind.TheVariants as fault

-- a fault at a line: only a fault of a record has one
abbrev pub fault_at : ℕ → TraceFaultKind → TraceFault
fault_at line fault.Memory = whole_fault fault.Memory
fault_at line kind = record { line = line; kind = kind }

-- the check gave a command, and it is added at the end
abbrev pub Adds : Result Command TraceFaultKind → List Command → List Command → Type 0
Adds (Ok command) old new = new ≡ old ++ command ∷ []
Adds (Err _) old new = ⊥

-- a check's fault, or out of memory instead
abbrev pub RefusesBy : {T : Type 0} → Result T TraceFaultKind → TraceFaultKind → Type 0
RefusesBy check kind = (kind ≡ fault.Memory) ⊎ (check ≡ Err kind)

-- how many bytes the page of a command has, if a page has `size`
abbrev pub page_len : Op → ℕ → ℕ
page_len op.Write size = size
page_len op.New size = size
page_len _ _ = 0

-- the records before a place of a text are these commands
abbrev pub AreSoFar : Geometry → List ℕ → ℕ → List Command → Type 0
AreSoFar geo text at commands = checked geo text ≡ map Ok commands ++ map (command_of geo) (records_of (drop at text))
