-- The lines of a trace from the answers of its workers: each worker's answers are a row, in the order of its lines.
use Rattle.std.specs.Prelude.{◌≡◌, ℕ, ◌≤◌, ◌==◌, ◌&&◌, not, All, Bool, true, false, if◌then◌else◌, List, [], ◌∷◌, length, take, drop, Option, None, Some}
use Rattle.std.specs.Prelude.{slice_get, ◌<◌, ◌++◌, map, slice_index_or}
use Rattle.std.specs.List.{filter}
use Rattle.trace.specs.declared.commands.Command.{Command}
use Rattle.trace.specs.declared.commands.Op.TheVariants as op
use Rattle.trace.specs.declared.commands.Op.{Op}
use Rattle.rounds.specs.Lines.{Said}
use Rattle.rounds.specs.Told.{Line, line, worker_of, sector_of, calls_in, is_right}
use Rattle.rounds.specs.declared.answer.Kind.TheVariants as kind
use Rattle.geometry.specs.History.{Call}
use Rattle.flash_rule.specs.Views.{caller, calls_of}
use Rattle.rounds.specs.Answers.{said_in}
use Rattle.rounds.specs.declared.answer_list.Answers.{Answers}
use Rattle.rounds.specs.Playing.{Plays, calls_done}
use Rattle.rounds.specs.Rounds.{PlayedRound}
use Rattle.rounds.specs.Orders.{made, InOrder, LeaveSame}

-- whether an op ends a round
abbrev pub is_meet : Op → Bool
is_meet op.Meet = true
is_meet _ = false

-- whether an op may change its sector
abbrev pub changes : Op → Bool
changes op.Read = false
changes op.Meet = false
changes _ = true

-- a line that this worker does: a meeting is nobody's
abbrev pub is_line_of : ℕ → Command → Bool
is_line_of t c = not (is_meet c.op) && (c.worker == t)

-- the lines of one worker among commands, in order
abbrev pub lines_for : ℕ → List Command → List Command
lines_for t cs = filter (is_line_of t) cs

-- how many lines of the worker there are
abbrev pub line_count : ℕ → List Command → ℕ
line_count t cs = length (lines_for t cs)

-- a command with its answer; a meeting has none of its own
abbrev pub answer_for : Command → Option Said → Line
answer_for c None = record { command = c; kind = kind.Met; page = [] }
answer_for c (Some a) = line c a

-- the answer of the next command is the first one of its worker's row
abbrev pub next_of : Command → (ℕ → List Said) → Option Said
next_of c rows = if is_meet c.op then None else slice_get (rows c.worker) 0

-- what is left of the rows after a command
abbrev pub after_line : Command → (ℕ → List Said) → ℕ → List Said
after_line c rows t = if is_line_of t c then drop 1 (rows t) else rows t

-- the commands in their order, each with its answer
abbrev pub merge : List Command → (ℕ → List Said) → List Line
merge [] rows = []
merge (c ∷ cs) rows = answer_for c (next_of c rows) ∷ merge cs (after_line c rows)

-- what is left of the rows after commands
abbrev pub rows_after : List Command → (ℕ → List Said) → ℕ → List Said
rows_after cs rows t = drop (line_count t cs) (rows t)

-- the rows have an answer for each line
abbrev pub HaveAnswers : (ℕ → List Said) → List Command → Type 0
HaveAnswers rows cs = (t : ℕ) → line_count t cs ≤ length (rows t)

-- up to these commands the rows are equal
abbrev pub AreSameFor : List Command → (ℕ → List Said) → (ℕ → List Said) → Type 0
AreSameFor cs rows others = (t : ℕ) → take (line_count t cs) (rows t) ≡ take (line_count t cs) (others t)

-- none of the commands is a meeting
abbrev pub HaveNoMeeting : List Command → Type 0
HaveNoMeeting cs = All (λ c. is_meet c.op ≡ false) cs

-- No sector that a line of one worker may change is named by a line of another worker. A sector that is only read may be named by all
abbrev pub AreDisjointCommands : List Command → Type 0
AreDisjointCommands cs = All (λ c. All (λ d. changes c.op ≡ true → c.sector ≡ d.sector → c.worker ≡ d.worker) cs) cs

-- a command in front of the first round
abbrev pub in_first_round : Command → List (List Command) → List (List Command)
in_first_round c [] = (c ∷ []) ∷ []
in_first_round c (round ∷ rounds) = (c ∷ round) ∷ rounds

-- the rounds of a trace: its commands between the meetings
abbrev pub rounds_of : List Command → List (List Command)
rounds_of [] = [] ∷ []
rounds_of (c ∷ cs) = if is_meet c.op then [] ∷ rounds_of cs else in_first_round c (rounds_of cs)

-- in each round the workers' lines are at disjoint sectors, except for sectors that the round only reads
abbrev pub IsDisjointTrace : List Command → Type 0
IsDisjointTrace cs = All AreDisjointCommands (rounds_of cs)

-- the answers of worker t, from a list in the order of the workers; none if the list is too short
abbrev pub answers_by : List Answers → ℕ → List Said
answers_by rows t = slice_index_or (map said_in rows) t []

-- A round was answered between two histories, by the next answers of each worker. The later history begins with the earlier one; each line of
-- the round was answered between the two, and the calls in between are those of the round's lines that were done, and no others. If the
-- round is disjoint, its lines were answered as if one after another, from the array of the earlier history, and the array of the later one
-- is what they make of it
pub record RoundAnswered (n hosts : ℕ) (first : List Call) (cs : List Command) (rows : ℕ → List Said) (last : List Call) : Type 0 where
  pub played : PlayedRound worker_of sector_of calls_in is_right hosts n first (merge cs rows) last
  pub exact : AreDisjointCommands cs → InOrder sector_of calls_in is_right n first (merge cs rows) × LeaveSame n last (first ++ made calls_in (merge cs rows))

-- There are histories, one for each end of a round, each of which begins the next: each round was answered between the history before it
-- and the one at its end, and the one at the end of the last round is the whole history
abbrev pub AreRounds : ℕ → ℕ → List Call → List (List Command) → (ℕ → List Said) → List Call → Type 0
AreRounds n hosts first [] rows last = first ≡ last
AreRounds n hosts first (cs ∷ rest) rows last = (h : List Call) × RoundAnswered n hosts first cs rows h × AreRounds n hosts h rest (rows_after cs rows) last

-- Workers have answered their lines at one history. It contains the calls of the lines that were done, each worker's in their order, and no
-- others; each worker's lines were answered correctly one after another, each at a beginning of it; and it has grown from the empty history
-- round by round
pub record AreAtOneHistory (n hosts : ℕ) (commands : List Command) (rows : ℕ → List Said) : Type 0 where
  pub history : List Call
  pub callers : All (λ c. caller c < hosts) history
  pub calls : (t : ℕ) → t < hosts → calls_of t history ≡ calls_done t (lines_for t commands) (rows t)
  pub plays : (t : ℕ) → t < hosts → Plays n t [] (lines_for t commands) (rows t) history
  pub rounds : AreRounds n hosts [] (rounds_of commands) rows history
