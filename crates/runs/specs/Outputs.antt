-- What a run writes to its output: the whole text, or without the answers only its last line.
use Rattle.std.specs.Prelude.{◌≡◌, ℕ, Bool, true, false, List, ◌++◌, Result, Ok, Err}
use Rattle.std.specs.Io.KnownBytes.{IsAtEnd}
use Rattle.geometry.specs.declared.geometry.Geometry.{Geometry}
use Rattle.trace.specs.{Trace.commands_of, declared.commands.Command.Command}
use Rattle.answers.specs.{Answers.end_text, Outcome.ExplainsRun, Streams.Passage, Streams.Tells, declared.fault.RunFault.RunFault}
use Rattle.answers.specs.Streams.{Whole}
use Rattle.rounds.specs.Lines.{Said}
use Rattle.runs.specs.{Texts.text_of, Playing.IsTextOf, Playing.last_line, Playing.text_of_commands, Texts.IsTextOf as IsSharedTextOf}

-- what a run by one thread writes of the text of its commands: all of it, or if the answers aren't wanted only the last line
abbrev pub written_of : Bool → Geometry → List Command → List ℕ
written_of true geo commands = text_of_commands geo commands
written_of false geo commands = last_line geo commands

-- the last line of the text of the commands that these bytes mean
pub record IsLastLineOf (geo : Geometry) (bytes text : List ℕ) : Type 0 where
  pub commands : List Command
  pub meaning : commands_of bytes geo ≡ Ok commands
  pub line : text ≡ last_line geo commands

-- the output of a run by one thread, if its answers are wanted or not: the text of the commands, or its last line
abbrev pub IsOutputOf : Bool → Geometry → List ℕ → List ℕ → Type 0
IsOutputOf true geo bytes text = IsTextOf geo bytes text
IsOutputOf false geo bytes text = IsLastLineOf geo bytes text

-- what a run by workers writes of the text of its commands and answers: all of it, or only the last line
abbrev pub written_by_workers : Bool → List Command → (ℕ → List Said) → List ℕ
written_by_workers true commands rows = text_of commands rows
written_by_workers false commands rows = end_text

-- the last line of a text of a run by workers of the commands that these bytes mean
pub record IsLastLineByWorkers (geo : Geometry) (bytes text : List ℕ) : Type 0 where
  pub lines : List ℕ
  pub whole : IsSharedTextOf geo bytes (lines ++ text)
  pub line : text ≡ end_text

-- the output of a run by workers, if its answers are wanted or not: a text of the commands, or its last line
abbrev pub IsOutputByWorkers : Bool → Geometry → List ℕ → List ℕ → Type 0
IsOutputByWorkers true geo bytes text = IsSharedTextOf geo bytes text
IsOutputByWorkers false geo bytes text = IsLastLineByWorkers geo bytes text

-- how a run ends: it has read its input to the end and written a text that is right for all its bytes, and no call failed, or a fault explains it
abbrev pub ExplainsEnd : {T : Type 0} → (Geometry → List ℕ → List ℕ → Type 0) → Geometry → Passage → Passage → Result T RunFault → Type 0
ExplainsEnd IsTextOf geo input output (Ok _) =
    IsAtEnd input.after.bytes × Tells Whole (IsTextOf geo) input.before output
    × (input.after.failures ≡ input.before.failures) × (output.after.failures ≡ output.before.failures)
ExplainsEnd IsTextOf geo input output (Err fault) = ExplainsRun IsTextOf geo input output fault
