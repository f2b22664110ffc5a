-- The lines of a trace with their answers, and their text.
use Rattle.std.specs.Prelude.{ℕ, ◌<◌, if◌then◌else◌, List, [], ◌∷◌, ◌++◌, ◌≡◌, ◌⊎◌, ◌+◌, Bool, true, false, codes, map, Some, slice_get}
use Rattle.geometry.specs.Sectors.{Sector}
use Rattle.geometry.specs.History.{Call}
use Rattle.flash_rule.specs.declared.view.View.{View}
use Rattle.trace.specs.declared.commands.Command.{Command}
use Rattle.rounds.specs.declared.answer.Kind.TheVariants as kind
use Rattle.rounds.specs.declared.answer.Kind.{Kind}
use Rattle.rounds.specs.Lines.{Said, calls_by, is_full, IsRight}
use Rattle.rounds.specs.Orders.{made, InOrder, LeaveSame}
use Rattle.rounds.specs.Rounds.{AreDisjoint, AreInRange, AreTied, HavePlayed, HaveMet}
use Rattle.std.specs.Option.{option_map_or}
use Rattle.hex.specs.Hex.{encode_lower}
use Rattle.trace.specs.declared.commands.Op.TheVariants as op
use Rattle.answers.specs.Answers.{answers, line_text}

-- a line with the kind of its answer, and the bytes that a read found
pub record Line : Type 0 where
  pub command : Command
  pub kind : Kind
  pub page : List ℕ

-- the worker that does the line, and the sector that it names
abbrev pub worker_of : Line → ℕ
worker_of x = x.command.worker

-- the sector that it names
abbrev pub sector_of : Line → ℕ
sector_of x = x.command.sector

-- the calls that it has added to the history: none if it was turned away
abbrev pub calls_in : Line → List Call
calls_in x = if is_full x.kind then [] else calls_by x.command.worker x.command.op x.command.sector x.command.page

-- its answer is right if its sector holds this
abbrev pub is_right : Line → Sector → Type 0
is_right x sector = IsRight x.command.op sector x.kind x.page

-- a command with its answer
abbrev pub line : Command → Said → Line
line c a = record { command = c; kind = a.kind; page = a.page }

-- commands with their answers, one each
abbrev pub told : List Command → List Said → List Line
told (c ∷ lines) (a ∷ answers) = line c a ∷ told lines answers
told _ _ = []

-- lines that are rightly answered one after another, from an unused device on, and a history with the array that they leave
pub record AreAnswered (n : ℕ) (h : List Call) (xs : List Line) : Type 0 where
  pub in_order : InOrder sector_of calls_in is_right n [] xs
  pub same : LeaveSame n h (made calls_in xs)

-- A round of lines at disjoint sectors, from one history that all passes have seen to the next: each pass has played its worker's lines, and the
-- passes have met
pub record RoundOf (hosts n : ℕ) (first last : List Call) (before played after : ℕ → View) (xs : List Line) : Type 0 where
  pub some : 0 < hosts
  pub range : AreInRange worker_of sector_of hosts n xs
  pub disjoint : AreDisjoint worker_of sector_of calls_in xs
  pub tied : AreTied hosts first before
  pub play : HavePlayed worker_of sector_of calls_in is_right hosts n before xs played
  pub met : HaveMet hosts last played after

-- After such a round the passes are at one history again, and its lines are answered in order after all lines that were answered in order
-- before it, although the workers have played them at the same time
abbrev pub RoundsAreInOrder : Type 0
RoundsAreInOrder =
    (hosts n : ℕ) (first last : List Call) (before played after : ℕ → View) (xs all : List Line) → RoundOf hosts n first last before played after xs
    → AreAnswered n first all → AreTied hosts last after × AreAnswered n last (all ++ xs)

-- an answer as text: a page is given by its bytes in lower-case hexadecimal digits
abbrev pub answer_text : Kind → List ℕ → List ℕ
answer_text kind.Empty page = codes "empty"
answer_text kind.Written page = codes "written"
answer_text kind.Page page = encode_lower page
answer_text kind.Met page = codes "met"
answer_text kind.Full page = codes "full"

-- the text of lines of which this many come before the first
abbrev pub lines_text : ℕ → List Line → List ℕ
lines_text k [] = []
lines_text k (x ∷ xs) = line_text (k + 1) x.command.op x.command.sector (answer_text x.kind x.page) ++ lines_text (k + 1) xs

-- the commands of lines
abbrev pub commands_in : List Line → List Command
commands_in xs = map (λ x. x.command) xs

-- whether the line at an index was turned away
abbrev pub refused_in : List Line → ℕ → Bool
refused_in xs k = option_map_or (λ x. is_full x.kind) (slice_get xs k) false

-- This is the text of the answers of commands, with the writes at some set of lines turned away, and of no other lines
pub record IsTextOfSome (n : ℕ) (commands : List Command) (text : List ℕ) : Type 0 where
  pub refused : ℕ → Bool
  pub writes : (k : ℕ) (c : Command) → slice_get commands k ≡ Some c → refused k ≡ true → (c.op ≡ op.Write) ⊎ (c.op ≡ op.New)
  pub answers : text ≡ answers (codes "full") n refused commands

-- The text of lines that are rightly answered one after another, from an unused device on, is the answers of their commands, with the
-- writes turned away at some set of lines
abbrev pub OrderIsText : Type 0
OrderIsText = (n : ℕ) (xs : List Line) → InOrder sector_of calls_in is_right n [] xs → IsTextOfSome n (commands_in xs) (lines_text 0 xs)
