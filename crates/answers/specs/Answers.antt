-- The answers of a trace's commands: one line each, over the array of sectors and its history; a reply as text, and what a command needs to be played.
use Rattle.std.specs.Prelude.{Bool, true, false, List, ℕ, codes, ◌≡◌, ◌<◌, length, ◌+◌, [], ◌++◌, Option, None, Some, slice_get, decimal, if◌then◌else◌}
use Rattle.geometry.specs.declared.answer.Was.TheVariants as was
use Rattle.geometry.specs.declared.answer.Was.{Was}
use Rattle.answers.specs.declared.reply.Reply.TheVariants as reply
use Rattle.answers.specs.declared.reply.Reply.{Reply}
use Rattle.geometry.specs.Geometry.{sectors_of, page_bytes_of}
use Rattle.geometry.specs.declared.geometry.Geometry.{Geometry}
use Rattle.trace.specs.Trace.{workers_of, op_name}
use Rattle.trace.specs.declared.commands.Command.{Command}
use Rattle.trace.specs.declared.commands.Op.TheVariants as op
use Rattle.trace.specs.declared.commands.Op.{Op}
use Rattle.std.specs.Option.{option_map_or, option_to_list}
use Rattle.std.specs.List.{flat_map, range_with_len}
use Rattle.geometry.specs.Sectors.{Sector, was_of}
use Rattle.geometry.specs.History.{Call, Write, WriteNew, Trim, held}
use Rattle.hex.specs.Hex.{encode_lower}
use Rattle.answers.specs.declared.broom_line.BroomLine.{BroomLine}

-- the text of a reply; a page is reported by its digits
abbrev pub reply_text : Reply → List ℕ → List ℕ
reply_text reply.Empty digits = codes "empty"
reply_text reply.Written digits = codes "written"
reply_text reply.Worn digits = codes "worn"
reply_text reply.Full digits = codes "full"
reply_text reply.Met digits = codes "met"
reply_text reply.Page digits = digits

-- whether a write was refused because the device is worn out
abbrev pub is_worn_reply : Reply → Bool
is_worn_reply reply.Worn = true
is_worn_reply _ = false

-- the reply that says what a sector was
abbrev pub reply_of : Was → Reply
reply_of was.Empty = reply.Empty
reply_of was.Written = reply.Written

-- a command that a device of this geometry can play: its worker and its sector exist, and a write of either kind has a page
pub record IsPlayable (geo : Geometry) (command : Command) : Type 0 where
  pub worker : command.worker < workers_of geo
  pub sector : command.sector < sectors_of geo
  pub page : command.op ≡ op.Write → length command.page ≡ page_bytes_of geo
  pub new_page : command.op ≡ op.New → length command.page ≡ page_bytes_of geo

-- the call by which a command may change the array. The array doesn't depend on which pass makes it, so all calls are made by pass 0
abbrev pub call_by : Op → ℕ → List ℕ → Option Call
call_by op.Read s value = None
call_by op.Write s value = Some (Write 0 s value)
call_by op.New s value = Some (WriteNew 0 s value)
call_by op.Trim s value = Some (Trim 0 s)
call_by op.Meet s value = None

-- the call by which a command may change the array, if it may
abbrev pub call_of : Command → Option Call
call_of command = call_by command.op command.sector command.page

-- the calls that a command adds to the history: none if it is refused
abbrev pub calls_of : Bool → Command → List Call
calls_of refused command = if refused then [] else option_to_list (call_of command)

-- what a function of commands gives for the command at an index, and nothing past the last one
abbrev pub at_place : {X : Type 0} → List Command → ℕ → (Command → List X) → List X
at_place commands k f = option_map_or f (slice_get commands k) []

-- the history before the line at an index: the calls of all commands before it, without the refused ones
abbrev pub history_before : (ℕ → Bool) → List Command → ℕ → List Call
history_before refused commands n = flat_map (λ k. at_place commands k (calls_of (refused k))) (range_with_len 0 n)

-- what a sector was, as a reply
abbrev pub was_text : Was → List ℕ
was_text was.Empty = codes "empty"
was_text was.Written = codes "written"

-- what a read finds, as a reply: the value in lower-case hexadecimal digits
abbrev pub found_text : Sector → List ℕ
found_text None = codes "empty"
found_text (Some value) = encode_lower value

-- the answer of a command whose sector holds this: that of a refused command is the word of refusal
abbrev pub answer_of : List ℕ → Bool → Op → Sector → List ℕ
answer_of refusal refused op.Read sector = found_text sector
answer_of refusal refused op.Write sector = if refused then refusal else was_text (was_of sector)
answer_of refusal refused op.New sector = if refused then refusal else was_text (was_of sector)
answer_of refusal refused op.Trim sector = was_text (was_of sector)
answer_of refusal refused op.Meet sector = codes "met"

-- a line of the output
abbrev pub line_text : ℕ → Op → ℕ → List ℕ → List ℕ
line_text line op sector answer = decimal line ++ codes "," ++ op_name op ++ codes "," ++ decimal sector ++ codes "," ++ answer ++ codes "\n"

-- the line of the command at an index: it is answered at the history before it. Lines count from 1
abbrev pub line_at : List ℕ → ℕ → (ℕ → Bool) → List Command → ℕ → List ℕ
line_at refusal sectors refused commands k =
    at_place commands k (λ command.
    line_text (k + 1) command.op command.sector
    (answer_of refusal (refused k) command.op (held sectors (history_before refused commands k) command.sector)))

-- the text of the first lines
abbrev pub lines_before : List ℕ → ℕ → (ℕ → Bool) → List Command → ℕ → List ℕ
lines_before refusal sectors refused commands n = flat_map (line_at refusal sectors refused commands) (range_with_len 0 n)

-- the answers of the commands of a device with this many sectors; the writes at the refused places are answered with a word
abbrev pub answers : List ℕ → ℕ → (ℕ → Bool) → List Command → List ℕ
answers refusal sectors refused commands = lines_before refusal sectors refused commands (length commands)

-- the names of what is reported for each block, and the line of a block: its number, its erase commands, its live pages, and 1 if it is
-- retired, otherwise 0
abbrev pub wear_names : List ℕ
wear_names = codes "block,erases,live,retired\n"

-- a line of the wear: a block with its erases, its live pages, and 1 if it is retired
abbrev pub wear_line : ℕ → ℕ → ℕ → Bool → List ℕ
wear_line block erases live retired =
    decimal block ++ codes "," ++ decimal erases ++ codes "," ++ decimal live ++ codes "," ++ decimal (if retired then 1 else 0) ++ codes "\n"

-- the names of what is reported for each collection
abbrev pub collection_names : List ℕ
collection_names = codes "line,victim,copied,copybacks,erases,outcome\n"

-- what a victim is after the erase: free for the next collection, or retired
abbrev pub outcome_text : Bool → List ℕ
outcome_text retired = if retired then codes "retired" else codes "freed"

-- the line of a collection: the line of the trace that caused it, its victim, the pages copied, how many of these by copyback, the victim's
-- erases after it, and what the victim is then
abbrev pub collection_line : ℕ → ℕ → ℕ → ℕ → ℕ → Bool → List ℕ
collection_line line victim copied copybacks erases retired =
    decimal line ++ codes "," ++ decimal victim ++ codes "," ++ decimal copied ++ codes "," ++ decimal copybacks ++ codes "," ++ decimal erases ++ codes ","
    ++ outcome_text retired ++ codes "\n"

-- the names of what is reported for each broom
abbrev pub broom_names : List ℕ
broom_names = codes "broom,drained,moved,programmed,erased,kept,retired,lost,pinned,stale,idle\n"

-- the line of a broom: its number and its counts
abbrev pub broom_line : BroomLine → List ℕ
broom_line it =
    decimal it.broom ++ codes "," ++ decimal it.drained ++ codes "," ++ decimal it.moved ++ codes "," ++ decimal it.programmed ++ codes ","
    ++ decimal it.erased ++ codes "," ++ decimal it.kept ++ codes "," ++ decimal it.retired ++ codes "," ++ decimal it.lost ++ codes ","
    ++ decimal it.pinned ++ codes "," ++ decimal it.stale ++ codes "," ++ decimal it.idle ++ codes "\n"

-- the last line of a run of several threads
abbrev pub end_text : List ℕ
end_text = codes "end\n"

-- the last line of a run of one thread: what its device programmed, copied and erased
abbrev pub totals_text : ℕ → ℕ → ℕ → List ℕ
totals_text programs copies erases = codes "end," ++ decimal programs ++ codes "," ++ decimal copies ++ codes "," ++ decimal erases ++ codes "\n"
