-- The whole text of a run with one thread, the run while it is played, and the writes that it refuses, by how many there are.
use Rattle.std.specs.Prelude.{◌≡◌, ℕ, Bool, false, List, ◌++◌, length, take, codes, is_none, slice_get, unwrap_or, Ok, true, [], Option}
use Rattle.std.specs.Option.{option_map_or}
use Rattle.std.specs.List.{fold, filter, range_with_len}
use Rattle.geometry.specs.Geometry.{sectors_of}
use Rattle.geometry.specs.History.{Call, after}
use Rattle.geometry.specs.Sectors.{sector_at, Sector}
use Rattle.geometry.specs.declared.geometry.Geometry.{Geometry}
use Rattle.ftl_one.specs.OneFtl.{geometry_of, stock_of, array_of}
use Rattle.ftl_one.specs.Stock.{Stock, opening, next}
use Rattle.ftl_one.specs.declared.one_ftl.OneFtl.{OneFtl}
use Rattle.trace.specs.Trace.{commands_of}
use Rattle.trace.specs.declared.commands.Command.{Command}
use Rattle.answers.specs.Answers.{answer_of, answers, call_of, line_text, totals_text, history_before, lines_before}
use Rattle.rounds.specs.Lines.{Said, is_full}
use Rattle.rounds.specs.Merging.{merge}
use Rattle.rounds.specs.Told.{Line}
use Rattle.answers.specs.Delivery.{IsUnderWay}

-- whether a call is refused at a stock
abbrev pub is_worn : Geometry → Stock → Call → Bool
is_worn geo stock call = is_none (next geo stock call)

-- whether a command is refused at a stock
abbrev pub is_refused : Geometry → Stock → Command → Bool
is_refused geo stock command = option_map_or (is_worn geo stock) (call_of command) false

-- the stock after a call; a refused one leaves it unchanged
abbrev pub after_call : Geometry → Stock → Call → Stock
after_call geo stock call = unwrap_or (next geo stock call) stock

-- the stock after a command
abbrev pub stock_after : Geometry → Stock → Command → Stock
stock_after geo stock command = option_map_or (after_call geo stock) (call_of command) stock

-- the answer that a layer gives to a command: that of a refused one is worn
abbrev pub answer_by : OneFtl → Command → List ℕ
answer_by ftl command = answer_of (codes "worn") (is_refused (geometry_of ftl) (stock_of ftl) command) command.op (sector_at (array_of ftl) command.sector)

-- the line of that answer
abbrev pub line_by : OneFtl → ℕ → Command → List ℕ
line_by ftl line command = line_text line command.op command.sector (answer_by ftl command)

-- the stock before the line at an index: after all commands before it, from an unused device on
abbrev pub stock_before : Geometry → List Command → ℕ → Stock
stock_before geo commands n = fold (stock_after geo) (opening geo) (take n commands)

-- whether the command at an index is refused
abbrev pub refused_at : Geometry → List Command → ℕ → Bool
refused_at geo commands k = option_map_or (is_refused geo (stock_before geo commands k)) (slice_get commands k) false

-- the last line: the totals of the stock
abbrev pub end_text : Stock → List ℕ
end_text stock = totals_text stock.programs stock.copies stock.erases

-- the last line of a run of these commands: the totals after the last
abbrev pub last_line : Geometry → List Command → List ℕ
last_line geo commands = end_text (stock_before geo commands (length commands))

-- the whole text of a run: the answers of all commands, and the last line
abbrev pub text_of_commands : Geometry → List Command → List ℕ
text_of_commands geo commands = answers (codes "worn") (sectors_of geo) (refused_at geo commands) commands ++ last_line geo commands

-- the text of the commands that these bytes mean
pub record IsTextOf (geo : Geometry) (bytes text : List ℕ) : Type 0 where
  pub commands : List Command
  pub meaning : commands_of bytes geo ≡ Ok commands
  pub answers : text ≡ text_of_commands geo commands

-- how many of the first commands a run by one thread refuses
abbrev pub refused_before : Geometry → List Command → ℕ → ℕ
refused_before geo commands n = length (filter (refused_at geo commands) (range_with_len 0 n))

-- a run by one thread of the commands that these bytes mean refuses so many of them
pub record IsRefusedCount (geo : Geometry) (bytes : List ℕ) (count : ℕ) : Type 0 where
  pub commands : List Command
  pub meaning : commands_of bytes geo ≡ Ok commands
  pub count_is : count ≡ refused_before geo commands (length commands)

-- whether a line was refused, since it found no block
abbrev pub is_full_line : Line → Bool
is_full_line line = is_full line.kind

-- how many lines of a run by workers were refused, by the answers of each worker
abbrev pub refused_by_workers : List Command → (ℕ → List Said) → ℕ
refused_by_workers commands rows = length (filter is_full_line (merge commands rows))

-- the answers of the first n commands, if they are written
abbrev pub answers_written : Bool → Geometry → List Command → ℕ → List ℕ
answers_written true geo commands n = lines_before (codes "worn") (sectors_of geo) (refused_at geo commands) commands n
answers_written false geo commands n = []

-- the first n commands were played: this is the array, the stock, and the text so far
pub record ArePlayed (wanted : Bool) (geo : Geometry) (commands : List Command) (n : ℕ) (array : List Sector) (stock : Stock)
    (old new : Option (List ℕ)) (waiting : List ℕ) : Type 0 where
  pub array_is : array ≡ after (sectors_of geo) (history_before (refused_at geo commands) commands n)
  pub stock_is : stock ≡ stock_before geo commands n
  pub text : IsUnderWay old new waiting (answers_written wanted geo commands n)
