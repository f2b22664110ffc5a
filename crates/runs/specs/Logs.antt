-- The logs of a run: the collections of one thread, while it is played and at its end, what each broom has done, and the wear of the device.
use Rattle.std.specs.Prelude.{◌≡◌, ℕ, ◌+◌, List, [], ◌++◌, length, Option, Ok, ◌≢◌, ⊤, Bool, true, false, IfSome, None, slice_get}
use Rattle.std.specs.Option.{option_map_or}
use Rattle.std.specs.List.{flat_map, range_with_len}
use Rattle.geometry.specs.declared.geometry.Geometry.{Geometry}
use Rattle.ftl_one.specs.Collections.{collection_between, collection_due}
use Rattle.ftl_one.specs.declared.collection.Collection.{Collection}
use Rattle.trace.specs.Trace.{commands_of}
use Rattle.trace.specs.declared.commands.Command.{Command}
use Rattle.answers.specs.Answers.{collection_line, collection_names, broom_line, broom_names, wear_line, wear_names}
use Rattle.runs.specs.Playing.{stock_before}
use Rattle.ftl_one.specs.Stock.{Stock, is_retired, live_of}
use Rattle.trace.specs.declared.commands.Op.TheVariants as op
use Rattle.trace.specs.declared.commands.Op.{Op}
use Rattle.answers.specs.Delivery.{waiting_of}
use Rattle.answers.specs.declared.fault.RunFault.TheVariants as run
use Rattle.answers.specs.declared.fault.RunFault.{RunFault}
use Rattle.answers.specs.Streams.{Moves, Nothing, Part, Passage, Portion, Stream, Writes}
use Rattle.runs.specs.declared.log.Log.TheVariants as log
use Rattle.runs.specs.declared.log.Log.{Log}
use Rattle.answers.specs.declared.broom_line.BroomLine.{BroomLine}
use Rattle.workers.specs.Served.{AllHaveServed}
use Rattle.workers.specs.declared.collector.collector_end.CollectorEnd.{CollectorEnd}
use Rattle.workers.specs.declared.collector.tally.Tally.{Tally}
use Rattle.geometry.specs.Geometry.{blocks_of}
use Rattle.ftl_one.specs.Laws.{block_at}

-- the collection that the command at an index makes, if it makes one: the block whose erases grew by the command
abbrev pub made_at : Geometry → List Command → ℕ → Option Collection
made_at geo commands k = collection_between geo (stock_before geo commands k) (stock_before geo commands (k + 1))

-- the line of a collection, for this line of the trace
abbrev pub log_line : ℕ → Collection → List ℕ
log_line line made = collection_line line made.victim made.copied made.copybacks made.erases made.retired

-- what the log has for a line of the trace: the collection that it makes, or nothing
abbrev pub log_part : ℕ → Option Collection → List ℕ
log_part line made = option_map_or (log_line line) made []

-- what the log has for the command at an index. Lines count from 1
abbrev pub told_at : Geometry → List Command → ℕ → List ℕ
told_at geo commands k = log_part (k + 1) (made_at geo commands k)

-- the names, and the collections of the first commands
abbrev pub log_before : Geometry → List Command → ℕ → List ℕ
log_before geo commands n = collection_names ++ flat_map (told_at geo commands) (range_with_len 0 n)

-- the whole log: a line for each collection, in their order
abbrev pub log_text : Geometry → List Command → List ℕ
log_text geo commands = log_before geo commands (length commands)

-- the log of the commands that these bytes mean
pub record IsLogOf (geo : Geometry) (bytes text : List ℕ) : Type 0 where
  pub commands : List Command
  pub meaning : commands_of bytes geo ≡ Ok commands
  pub log : text ≡ log_text geo commands

-- whether a log is wanted
abbrev pub is_wanted : Log → Bool
is_wanted log.Unwanted = false
is_wanted _ = true

-- how much of a log is in its file if it is not known whether the file failed: a beginning, if the log is wanted
abbrev pub beginning_if : Bool → Portion
beginning_if true = Part
beginning_if false = Nothing

-- how much of a log a run that stopped leaves in its file: a beginning if the answers could not be written and the log is wanted, and otherwise nothing
abbrev pub portion_left : RunFault → Bool → Portion
portion_left run.Output wanted = beginning_if wanted
portion_left _ wanted = Nothing

-- its file still takes lines
abbrev pub IsOpen : Log → Type 0
IsOpen log.Unwanted = ⊥
IsOpen (log.Open lines) = ⊤
IsOpen log.Failed = ⊥

-- this is the text of a log so far: it was written except for the lines that wait, or only a beginning of it if the file failed
abbrev pub IsLogged : Log → Passage → List ℕ → Type 0
IsLogged log.Unwanted file text = file.after ≡ file.before
IsLogged (log.Open lines) file text = (file.after.failures ≡ file.before.failures) × Moves file (waiting_of lines) text
IsLogged log.Failed file text = (file.after.failures ≢ file.before.failures) × Writes Part text file

-- the collection that a command may make: the one that is needed before a page is programmed, if the command may program a page
abbrev pub due_before : Op → Geometry → Stock → Option Collection
due_before op.Write geo stock = collection_due geo stock
due_before op.New geo stock = collection_due geo stock
due_before _ _ _ = None

-- the text of a log is right for the bytes of the trace, and this much of it was written
pub record IsLogUnderWay (geo : Geometry) (input : Stream) (state : Log) (file : Passage) : Type 0 where
  pub text : List ℕ
  pub right : IfSome input.bytes (λ bytes. IsLogOf geo bytes text)
  pub logged : IsLogged state file text

-- what a line has for a broom: its number, and each of its counts
abbrev pub counts_of : ℕ → Tally → BroomLine
counts_of k tally = record {
  broom = k;
  drained = tally.drained;
  moved = tally.moved;
  programmed = tally.programmed;
  erased = tally.erased;
  kept = tally.kept;
  retired = tally.retired;
  lost = tally.lost;
  pinned = tally.pinned;
  stale = tally.stale;
  idle = tally.gainless;
}

-- the line of a broom, by its end
abbrev pub end_line : ℕ → CollectorEnd → List ℕ
end_line k end = broom_line (counts_of k end.tally)

-- the line of the broom of this number, by the ends of all
abbrev pub line_of_broom : List CollectorEnd → ℕ → List ℕ
line_of_broom ends k = option_map_or (end_line k) (slice_get ends k) []

-- the names, and the lines of the first brooms
abbrev pub brooms_before : List CollectorEnd → ℕ → List ℕ
brooms_before ends n = broom_names ++ flat_map (line_of_broom ends) (range_with_len 0 n)

-- the whole log: a line for each broom, in the order of their numbers
abbrev pub brooms_text : List CollectorEnd → List ℕ
brooms_text ends = brooms_before ends (length ends)

-- The log of a run by workers of the commands that these bytes mean, with this limit of drains by one survey: each line has the counts of the
-- broom of its number, which are what that broom knows to have done within the limit
pub record IsBroomLogOf (drains : ℕ) (geo : Geometry) (bytes text : List ℕ) : Type 0 where
  pub commands : List Command
  pub meaning : commands_of bytes geo ≡ Ok commands
  pub ends : List CollectorEnd
  pub served : AllHaveServed geo drains ends
  pub log : text ≡ brooms_text ends

-- the line of a block of the stock
abbrev pub block_line : Stock → ℕ → List ℕ
block_line stock b = wear_line b (block_at stock b).erases (live_of (block_at stock b)) (is_retired (block_at stock b).role)

-- the names, and the lines of the first blocks
abbrev pub wear_before : Stock → ℕ → List ℕ
wear_before stock n = wear_names ++ flat_map (block_line stock) (range_with_len 0 n)

-- the whole text: a line for each block
abbrev pub wear_text : Geometry → Stock → List ℕ
wear_text geo stock = wear_before stock (blocks_of geo)

-- the wear of the device after the commands that these bytes mean were played on it
pub record IsWearOf (geo : Geometry) (bytes text : List ℕ) : Type 0 where
  pub commands : List Command
  pub meaning : commands_of bytes geo ≡ Ok commands
  pub wear : text ≡ wear_text geo (stock_before geo commands (length commands))

-- the stock of the device after these commands were played on it
pub record IsStockOf (geo : Geometry) (bytes : List ℕ) (stock : Stock) : Type 0 where
  pub commands : List Command
  pub meaning : commands_of bytes geo ≡ Ok commands
  pub stock_is : stock ≡ stock_before geo commands (length commands)
