-- The whole text of a run by several workers: the answers of its workers, and the text that is written of them.
use Rattle.std.specs.Borrow.{Bor}
use Rattle.std.specs.Prelude.{◌≡◌, ℕ, ◌+◌, ◌*◌, ◌<◌, List, ◌++◌, Option, None, if◌then◌else◌, length, map, slice_get, slice_index_or, slice_set, vec_len, Ok}
use Rattle.trace.specs.declared.commands.Command.{Command}
use Rattle.answers.specs.Answers.{end_text, line_text}
use Rattle.answers.specs.Delivery.{page_digits_of}
use Rattle.rounds.specs.Lines.{Said}
use Rattle.rounds.specs.Answers.{answer_index, IsCursorOf}
use Rattle.rounds.specs.declared.answer.Kind.TheVariants as kind
use Rattle.rounds.specs.declared.answer.Kind.{Kind}
use Rattle.rounds.specs.declared.answer_list.Answers.{Answers}
use Rattle.rounds.specs.declared.answer_list.Cursor.{Cursor}
use Rattle.rounds.specs.Merging.{answer_for, is_meet, merge, IsDisjointTrace, AreAtOneHistory}
use Rattle.rounds.specs.Told.{answer_text, lines_text, IsTextOfSome}
use Rattle.runs.specs.declared.delivery.Delivery.{Delivery}
use Rattle.geometry.specs.Geometry.{hosts_of, sectors_of}
use Rattle.geometry.specs.declared.geometry.Geometry.{Geometry}
use Rattle.trace.specs.Trace.{commands_of}

-- the whole text: the lines of all commands, each with its answer, and the last line
abbrev pub text_of : List Command → (ℕ → List Said) → List ℕ
text_of commands rows = lines_text 0 (merge commands rows) ++ end_text

-- for how many workers there is room
abbrev pub workers_in : Delivery → ℕ
workers_in delivery = vec_len delivery.next

-- for how many digits of a page there is room
abbrev pub digits_in : Delivery → ℕ
digits_in delivery = page_digits_of delivery.lines

-- an answer as one of a worker's answers
abbrev pub said_as : Kind × Bor (List ℕ) → Said
said_as answer = record { kind = answer.0; page = answer.1.now }

-- how many answers of each worker were used, as the indexes of the next answers
abbrev pub passed_in : List Cursor → List ℕ
passed_in next = map answer_index next

-- each of these indexes is one of its worker's answers
abbrev pub AreAt : List Answers → List Cursor → Type 0
AreAt rows next = (t : ℕ) (row : Answers) (cursor : Cursor) → t < length next → IsCursorOf (slice_index_or rows t row) (slice_index_or next t cursor)

-- a page in an answer has this many digits
abbrev pub HasDigits : ℕ → Said → Type 0
HasDigits n answer = answer.kind ≡ kind.Page → n ≡ 2 * length answer.page

-- the next answer of a command's worker, from each worker's answers and the indexes of the next ones; a meeting has none of its own
abbrev pub next_of : (ℕ → List Said) → List ℕ → Command → Option Said
next_of rows next command = if is_meet command.op then None else slice_get (rows command.worker) (slice_index_or next command.worker 0)

-- the indexes of the next answers after that answer was used
abbrev pub passed : List ℕ → Command → List ℕ
passed next command = if is_meet command.op then next else slice_set next command.worker (slice_index_or next command.worker 0 + 1)

-- the line of a command with that answer
abbrev pub line_of : ℕ → Command → Option Said → List ℕ
line_of line command answer =
    let x = answer_for command answer in line_text line command.op command.sector (answer_text x.kind x.page)

-- the text is the answers of the commands, with the writes turned away at some set of lines, and the last line
pub record IsWholeTextOfSome (n : ℕ) (commands : List Command) (text : List ℕ) : Type 0 where
  pub lines : List ℕ
  pub answers : IsTextOfSome n commands lines
  pub whole : text ≡ lines ++ end_text

-- This is a text of the commands that these bytes mean: a line for each command with its worker's next answer, and the last line. All
-- lines were answered at one history, and if the trace is disjoint, they are the answers of the trace, with the writes turned away at
-- some set of lines
pub record IsTextOf (geo : Geometry) (bytes text : List ℕ) : Type 0 where
  pub commands : List Command
  pub meaning : commands_of bytes geo ≡ Ok commands
  pub rows : ℕ → List Said
  pub lines : text ≡ text_of commands rows
  pub told : AreAtOneHistory (sectors_of geo) (hosts_of geo) commands rows
  pub answers : IsDisjointTrace commands → IsWholeTextOfSome (sectors_of geo) commands text
