-- What is printed of a fault.
use Rattle.std.specs.Prelude.{List, ℕ, ◌++◌, codes, decimal}
use Rattle.trace.specs.declared.fault.{TraceFault.TraceFault, TraceFaultKind.TraceFaultKind}
use Rattle.trace.specs.declared.fault.TraceFaultKind.TheVariants as kind

-- the name of a kind of fault
abbrev pub kind_name : TraceFaultKind → List ℕ
kind_name kind.Fields = codes "Fields"
kind_name kind.Worker = codes "Worker"
kind_name kind.Op = codes "Op"
kind_name kind.Sector = codes "Sector"
kind_name kind.Hex = codes "Hex"
kind_name kind.TooLong = codes "TooLong"
kind_name kind.Unused = codes "Unused"
kind_name kind.Read = codes "Read"
kind_name kind.Memory = codes "Memory"
kind_name kind.Big = codes "Big"

-- a fault with the number of its record
abbrev pub fault_text : TraceFault → List ℕ
fault_text fault = codes "line " ++ decimal fault.line ++ codes ": " ++ kind_name fault.kind
