-- What can be played, and where its answers go; what a pass does that plays one line.
use Rattle.std.specs.Prelude.{◌≡◌, ◌+◌, ◌<◌, ◌++◌, ℕ, List, [], length, drop, map, slice_index_or, Bool, true, false, if◌then◌else◌}
use Rattle.geometry.specs.Geometry.{sectors_of, page_bytes_of}
use Rattle.geometry.specs.declared.geometry.Geometry.{Geometry}
use Rattle.flash_table.specs.declared.pass.Pass.{Pass}
use Rattle.flash_table.specs.Flash.{view_of}
use Rattle.flash_table.specs.Steps.{HasNumber}
use Rattle.trace.specs.declared.commands.Command.{Command}
use Rattle.trace.specs.declared.commands.Op.TheVariants as op
use Rattle.trace.specs.declared.commands.Op.{Op}
use Rattle.rounds.specs.Lines.{Said, calls_by, IsRight, is_full}
use Rattle.rounds.specs.Playing.{Played, one_done, LineFound, PlayAdds}
use Rattle.rounds.specs.Answers.{page_size_of, said_in, HasSpaceFor}
use Rattle.rounds.specs.declared.answer.Answer.{Answer}
use Rattle.rounds.specs.declared.answer_list.Answers.{Answers}
use Rattle.geometry.specs.History.{Call, Write, WriteNew, held, Begins}
use Rattle.geometry.specs.declared.answer.Got.TheVariants as got
use Rattle.geometry.specs.declared.answer.Got.{Got}
use Rattle.flash_rule.specs.declared.view.View.{View}
use Rattle.rounds.specs.declared.answer.Kind.TheVariants as kind
use Rattle.rounds.specs.declared.answer.Kind.{Kind}

-- A line that a worker can do on a device of this geometry: its sector exists, a write of either kind has a page, and it is no meeting
pub record IsLine (geo : Geometry) (line : Command) : Type 0 where
  pub sector : line.sector < sectors_of geo
  pub page : line.op ≡ op.Write → length line.page ≡ page_bytes_of geo
  pub new_page : line.op ≡ op.New → length line.page ≡ page_bytes_of geo
  pub alone : ¬ (line.op ≡ op.Meet)

-- there is room for a page
abbrev pub HasPage : Geometry → Answer → Type 0
HasPage geo answer = length answer.page.items ≡ page_bytes_of geo

-- a line that does not exist
abbrev pub no_line : Command
no_line = record { worker = 0; op = op.Meet; sector = 0; page = [] }

-- the lines at these indexes
abbrev pub lines_at : List Command → List ℕ → List Command
lines_at lines places = map (λ p. slice_index_or lines p no_line) places

-- the pass has played these lines, with this many tries of each write, and these are their answers
abbrev pub HasPlayedLines : ℕ → Pass → List Command → List Said → Pass → Type 0
HasPlayedLines patience old lines answers new = (t : ℕ) → HasNumber t old → Played t patience (view_of old) lines answers (view_of new)

-- the answers that were added behind others
abbrev pub added : Answers → Answers → List Said
added old new = drop (length (said_in old)) (said_in new)

-- Lines were answered: this many answers were added behind the others, of pages of the same size, and there is still room for the answers
-- of all lines behind those for which there was room
pub record HasAnswered (lines : List Command) (old new : Answers) : Type 0 where
  pub kept : said_in new ≡ said_in old ++ added old new
  pub count : length (said_in new) ≡ length (said_in old) + length lines
  pub page : page_size_of new ≡ page_size_of old
  pub space : (rest : List Command) → HasSpaceFor old (lines ++ rest) → HasSpaceFor new rest

-- what a read found, as an answer
abbrev pub kind_found : Got → Kind
kind_found got.Empty = kind.Empty
kind_found got.Data = kind.Page

-- A pass has played one line, with this many tries of a write: the line has its right answer at a history, not before what the pass had
-- seen, and the pass has seen that history with the line's call. If it was not turned away its call is the pass's own, and a write has
-- programmed a page. The blocks that the pass has found taken are those of the tries of a write
pub record PlayedLine (t patience : ℕ) (v : View) (o : Op) (s : ℕ) (value : List ℕ) (k : Kind) (page : List ℕ) (full : Bool) (w : View) : Type 0 where
  pub history : List Call
  pub later : Begins v.seen history
  pub right : IsRight o (held v.numbers.sectors history s) k page
  pub last : Begins (history ++ (if full then [] else calls_by t o s value)) w.seen
  pub adds : PlayAdds (if full then [] else calls_by t o s value) (one_done o full) (LineFound patience v.numbers.blocks o full) v w
  pub open adds use *

-- the pass has played one line, with this answer; it was turned away if the answer is full
abbrev pub HasPlayedLine : ℕ → Pass → Op → ℕ → List ℕ → Kind → List ℕ → Pass → Type 0
HasPlayedLine patience old o s value k page new = (t : ℕ) → HasNumber t old → PlayedLine t patience (view_of old) o s value k page (is_full k) (view_of new)

-- the op of a write, or of one that is made only if its sector is empty
abbrev pub write_op : Bool → Op
write_op true = op.New
write_op false = op.Write

-- the call of such a line, by this thread
abbrev pub write_call : Bool → ℕ → ℕ → List ℕ → Call
write_call true = WriteNew
write_call false = Write
