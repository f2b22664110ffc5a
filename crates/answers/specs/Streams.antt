-- What a clause sees of a watched reader or writer: how often it failed, and its known bytes.
use Rattle.std.specs.Prelude.{◌≡◌, ◌≢◌, ℕ, Bool, true, false, List, Option, IfSome, Result, Ok, Err}
use Rattle.std.specs.Io.KnownBytes.{Appends}
use Rattle.streams.specs.{Watched.failures_of, Watched.inner_of, declared.watched.Watched.Watched}
use Rattle.answers.specs.declared.delivery.OutputFailed.{OutputFailed}
use Rattle.answers.specs.Delivery.{AppendsBeginning, AppendsPart, AppendsText, IsUnderWay}

-- What a clause sees of a watched reader or writer: how many of its calls failed, and its bytes, if they are known
pub record Stream : Type 0 where
  pub failures : ℕ
  -- what a reader has left, or what a writer holds, if that is known
  pub bytes : Option (List ℕ)

-- a watched stream, with the function that gives its bytes
abbrev pub stream_of : {T : Type 0} → (T → Option (List ℕ)) → Watched T → Stream
stream_of known w = record { failures = failures_of w; bytes = known (inner_of w) }

-- A stream before a call and after it
pub record Passage : Type 0 where
  pub before : Stream
  pub after : Stream

-- a watched stream over a call, with the function that gives its bytes
abbrev pub over : {T : Type 0} → (T → Option (List ℕ)) → Watched T → Watched T → Passage
over known old new = record { before = stream_of known old; after = stream_of known new }

-- How much of a text is written
pub data Portion : Type 0 where
  Nothing : Portion
  Part : Portion
  Whole : Portion

-- this much of a text was written: of nothing the stream is as before, and otherwise its known bytes grew by a beginning or by the whole
abbrev pub Writes : Portion → List ℕ → Passage → Type 0
Writes Nothing text output = output.after ≡ output.before
Writes Part text output = AppendsBeginning output.before.bytes output.after.bytes text
Writes Whole text output = Appends output.before.bytes output.after.bytes text

-- the same of a text that is right for the bytes that a reader had, if those are known
abbrev pub Tells : Portion → (List ℕ → List ℕ → Type 0) → Stream → Passage → Type 0
Tells Nothing IsTextOf input output = output.after ≡ output.before
Tells Part IsTextOf input output = IfSome input.bytes (λ bytes. AppendsPart IsTextOf bytes output.before.bytes output.after.bytes)
Tells Whole IsTextOf input output = IfSome input.bytes (λ bytes. AppendsText IsTextOf bytes output.before.bytes output.after.bytes)

-- calls of a stream failed if the result of a writing is a failure, and only then
abbrev pub FailsBy : Result (Unit {0}) OutputFailed → Passage → Type 0
FailsBy (Ok _) stream = stream.after.failures ≡ stream.before.failures
FailsBy (Err _) stream = stream.after.failures ≢ stream.before.failures

-- how much of a text is written with this result, if the text is wanted
abbrev pub portion_of : Bool → Result (Unit {0}) OutputFailed → Portion
portion_of false result = Nothing
portion_of true (Ok _) = Whole
portion_of true (Err _) = Part

-- how a text was written, if it is wanted: whole, with no call that failed, or a beginning of it, with one that did. Nothing is written of a text
-- that isn't wanted, and no call fails
abbrev pub WritesIf : Bool → List ℕ → Passage → Result (Unit {0}) OutputFailed → Type 0
WritesIf wanted text output result = FailsBy result output × Writes (portion_of wanted result) text output

-- the same of a text that is always wanted
abbrev pub WritesOut : List ℕ → Passage → Result (Unit {0}) OutputFailed → Type 0
WritesOut text output result = WritesIf true text output result

-- the same of a text that is right for the bytes that a reader had
abbrev pub TellsIf : Bool → (List ℕ → List ℕ → Type 0) → Stream → Passage → Result (Unit {0}) OutputFailed → Type 0
TellsIf wanted IsTextOf input output result = FailsBy result output × Tells (portion_of wanted result) IsTextOf input output

-- of a text in pieces some were written: the writer's known bytes grew by them, and with what waits they are the text so far
abbrev pub Moves : Passage → List ℕ → List ℕ → Type 0
Moves output waiting text = IsUnderWay output.before.bytes output.after.bytes waiting text
