-- A line of a trace with its answer: who does it, which calls it adds to the history, and when its answer is right.
use Rattle.std.specs.Prelude.{◌≡◌, ◌⊎◌, ℕ, Bool, true, false, if◌then◌else◌, List, [], ◌∷◌, None, Some}
use Rattle.geometry.specs.{Sectors.Sector, Sectors.was_of, History.Call, History.Write, History.WriteNew, History.Trim, declared.answer.Was.Was}
use Rattle.geometry.specs.declared.answer.Was.TheVariants as was
use Rattle.trace.specs.declared.commands.{Command.Command, Op.Op}
use Rattle.trace.specs.declared.commands.Op.TheVariants as op
use Rattle.rounds.specs.declared.answer.{Answer.Answer, Kind.Kind}
use Rattle.rounds.specs.declared.answer.Kind.TheVariants as kind

-- what the answer of a line is made of: its kind, and the bytes of its page
pub record Said : Type 0 where
  pub kind : Kind
  pub page : List ℕ

-- what an answer says
abbrev pub said : Answer → Said
said a = record { kind = a.kind; page = a.page.items }

-- what a sector was, as an answer
abbrev pub kind_of : Was → Kind
kind_of was.Empty = kind.Empty
kind_of was.Written = kind.Written

-- whether a write was turned away
abbrev pub is_full : Kind → Bool
is_full kind.Full = true
is_full _ = false

-- the call that a pass makes for a line: a read makes none
abbrev pub calls_by : ℕ → Op → ℕ → List ℕ → List Call
calls_by t op.Write s value = Write t s value ∷ []
calls_by t op.New s value = WriteNew t s value ∷ []
calls_by t op.Trim s value = Trim t s ∷ []
calls_by _ _ _ _ = []

-- the calls that a line has added, made by this pass: none if it was turned away
abbrev pub calls_made : ℕ → Command → Said → List Call
calls_made t c a = if is_full a.kind then [] else calls_by t c.op c.sector c.page

-- a read returns what its sector holds
abbrev pub IsFound : Sector → Kind → List ℕ → Type 0
IsFound None k page = k ≡ kind.Empty
IsFound (Some value) k page = (k ≡ kind.Page) × (page ≡ value)

-- the right answer of an op whose sector holds this: a write of either kind may be turned away at any time, and a meeting has no condition
abbrev pub IsRight : Op → Sector → Kind → List ℕ → Type 0
IsRight op.Read x k page = IsFound x k page
IsRight op.Write x k page = (k ≡ kind.Full) ⊎ (k ≡ kind_of (was_of x))
IsRight op.New x k page = (k ≡ kind.Full) ⊎ (k ≡ kind_of (was_of x))
IsRight op.Trim x k page = k ≡ kind_of (was_of x)
IsRight op.Meet x k page = k ≡ kind.Met
