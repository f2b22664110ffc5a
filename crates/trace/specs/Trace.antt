-- What a trace means: the commands of its records, or the fault of the first record that has one.
use Rattle.std.specs.Prelude.{◌≡◌, ℕ, ◌+◌, ◌==◌, ◌&&◌, nat_lt, nat_le, Bool, true, false, if◌then◌else◌, List, [], ◌∷◌, ◌++◌, length, map, codes, Result, Ok}
use Rattle.std.specs.{Prelude.Err, Str.all_ascii_digits, Str.bytes_eq, Str.Parse.digits_value}
use Rattle.csv.specs.Reading.{default_config, records, strip_bom}
use Rattle.geometry.specs.{Geometry.hosts_of, Geometry.page_bytes_of, Geometry.sectors_of, declared.geometry.Geometry.Geometry}
use Rattle.hex.specs.{Hex.decode_of, declared.error.FromHexError.FromHexError}
use Rattle.trace.specs.Page.{page_with}
use Rattle.trace.specs.declared.{commands.Command.Command, commands.Op.Op, fault.TraceFault.TraceFault, fault.TraceFaultKind.TraceFaultKind}
use Rattle.trace.specs.declared.commands.Op.TheVariants as op
use Rattle.trace.specs.declared.fault.TraceFaultKind.TheVariants as fault

-- the name of an op, in a trace and in the answers
abbrev pub op_name : Op → List ℕ
op_name op.Read = codes "read"
op_name op.Write = codes "write"
op_name op.New = codes "new"
op_name op.Trim = codes "trim"
op_name op.Meet = codes "meet"

-- the next check, if this one passed; the first fault ends the checks
infixl 10 ◌>>=◌
abbrev pub ◌>>=◌ : {A B : Type 0} → Result A TraceFaultKind → (A → Result B TraceFaultKind) → Result B TraceFaultKind
Ok x >>= f = f x
Err e >>= f = Err e

-- a number has one to seven decimal digits; leading zeros are allowed
abbrev pub is_number : List ℕ → Bool
is_number text = nat_lt 0 (length text) && nat_le (length text) 7 && all_ascii_digits text

-- the number that a field writes, if it is below the bound, and otherwise this fault
unfoldable pub number_below : ℕ → TraceFaultKind → List ℕ → Result ℕ TraceFaultKind
number_below bound otherwise text = if is_number text && nat_lt (digits_value 10 text) bound then Ok (digits_value 10 text) else Err otherwise

-- how many workers a trace may name: the hosts, or 500 for a device of one thread
abbrev pub workers_of : Geometry → ℕ
workers_of geo = if hosts_of geo == 0 then 500 else hosts_of geo

-- the op that a field names
unfoldable pub op_of : List ℕ → Result Op TraceFaultKind
op_of text =
    if bytes_eq text (op_name op.Read) then Ok op.Read
    else if bytes_eq text (op_name op.Write) then Ok op.Write
    else if bytes_eq text (op_name op.New) then Ok op.New
    else if bytes_eq text (op_name op.Trim) then Ok op.Trim
    else if bytes_eq text (op_name op.Meet) then Ok op.Meet
    else Err fault.Op

-- the page of these bytes, if they are no more than a page
abbrev pub page_of_bytes : ℕ → Result (List ℕ) FromHexError → Result (List ℕ) TraceFaultKind
page_of_bytes size (Ok bytes) = if nat_le (length bytes) size then Ok (page_with size bytes) else Err fault.TooLong
page_of_bytes size (Err _) = Err fault.Hex

-- no page, if there is no data that the op does not use
abbrev pub no_page : Bool → Result (List ℕ) TraceFaultKind
no_page unused_empty = if unused_empty then Ok [] else Err fault.Unused

-- the page that the data of an op makes: for a write of either kind the bytes that its hexadecimal digits write, and for the other ops
-- none. Those have no data, and a meet names worker 0 and sector 0.
unfoldable pub page_of_op : ℕ → Op → ℕ → ℕ → List ℕ → Result (List ℕ) TraceFaultKind
page_of_op size op.Write worker sector digits = page_of_bytes size (decode_of digits)
page_of_op size op.New worker sector digits = page_of_bytes size (decode_of digits)
page_of_op size op.Read worker sector digits = no_page (length digits == 0)
page_of_op size op.Trim worker sector digits = no_page (length digits == 0)
page_of_op size op.Meet worker sector digits = no_page (length digits == 0 && worker == 0 && sector == 0)

-- the check of one record: its command, or its first fault
unfoldable pub command_of : Geometry → List (List ℕ) → Result Command TraceFaultKind
command_of geo (worker_text ∷ op_text ∷ sector_text ∷ digits ∷ []) = do
  worker ← number_below (workers_of geo) fault.Worker worker_text
  op ← op_of op_text
  sector ← number_below (sectors_of geo) fault.Sector sector_text
  page ← page_of_op (page_bytes_of geo) op worker sector digits
  Ok (record { worker = worker; op = op; sector = sector; page = page })
command_of geo _ = Err fault.Fields

-- the records of a text: those of csv with its defaults and no header row, after the text's byte order mark
abbrev pub records_of : List ℕ → List (List (List ℕ))
records_of text = records default_config (strip_bom text)

-- each record of a text, checked
abbrev pub checked : Geometry → List ℕ → List (Result Command TraceFaultKind)
checked geo text = map (command_of geo) (records_of text)

-- a command in front of others, if those are commands
abbrev pub in_front : Command → Result (List Command) TraceFault → Result (List Command) TraceFault
in_front command (Ok others) = Ok (command ∷ others)
in_front command (Err e) = Err e

-- the commands of checked records, or the first fault with its record's number; the first record has this one
unfoldable pub all_or_first : ℕ → List (Result Command TraceFaultKind) → Result (List Command) TraceFault
all_or_first line [] = Ok []
all_or_first line (Ok command ∷ others) = in_front command (all_or_first (line + 1) others)
all_or_first line (Err kind ∷ others) = Err (record { line = line; kind = kind })

-- what a text means to a device: the commands of its records, or its first fault; records count from 1
unfoldable pub commands_of : List ℕ → Geometry → Result (List Command) TraceFault
commands_of text geo = all_or_first 1 (checked geo text)

-- each record is a command, and these are the commands, in order
abbrev pub AreCommands : List (Result Command TraceFaultKind) → List Command → Type 0
AreCommands records commands = records ≡ map Ok commands

-- the records before the fault's line are commands, and the record at that line has the fault
pub record IsFirstFault (records : List (Result Command TraceFaultKind)) (first : TraceFault) : Type 0 where
  pub before : List Command
  pub after : List (Result Command TraceFaultKind)
  pub order : records ≡ map Ok before ++ (Err first.kind ∷ after)
  pub line : first.line ≡ length before + 1

-- whether a fault is of a record, and not of the reader, the memory or the size
abbrev pub is_of_record : TraceFaultKind → Bool
is_of_record fault.Read = false
is_of_record fault.Memory = false
is_of_record fault.Big = false
is_of_record _ = true

-- a fault of no record, whose line is 0
abbrev pub whole_fault : TraceFaultKind → TraceFault
whole_fault kind = record { line = 0; kind = kind }
