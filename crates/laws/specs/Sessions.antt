-- Streams before a call and after it, as the laws of what is read and written name them, and sessions as the laws of their ends name them.
use Rattle.std.specs.Prelude.{◌≡◌, ℕ, List, Some, ⊤, Option, None, Result, codes}
use Rattle.answers.specs.Streams.{Passage, Stream, Tells, Whole}
use Rattle.answers.specs.declared.broom_line.BroomLine.{BroomLine}
use Rattle.std.specs.Io.KnownBytes.{IsAtEnd}
use Rattle.clap.specs.Words.{Text, one_of}
use Rattle.geometry.specs.Geometry.{numbers_of}
use Rattle.geometry.specs.declared.geometry.Geometry.{Geometry}
use Rattle.player.specs.CommandLine.{AreOptionsOf, numbers_given, rows_named}
use Rattle.player.specs.Telling.{TellsEnding}
use Rattle.player.specs.declared.run_files.FileStop.{FileStop}
use Rattle.player.specs.Session.{EndsSession, Explains, ExplainsStop, Filings, IsTextFor, filings}
use Rattle.player.specs.declared.command_line.Options.{Options}
use Rattle.player.specs.declared.run_files.RunFile.{RunFile}
use Rattle.player.specs.declared.stop.Stop.TheVariants as stop
use Rattle.player.specs.declared.stop.Stop.{Stop}
use Rattle.runs.specs.declared.files.RunFiles.{RunFiles}
use Rattle.streams.specs.Watched.{failures_of}
use Rattle.streams.specs.declared.named_file.OpenFault.TheVariants as open_fault
use Rattle.streams.specs.declared.named_file.OpenFault.{OpenFault}

-- a stream that failed this often and has these bytes
abbrev pub stream : ℕ → List ℕ → Stream
stream failures bytes = record { failures = failures; bytes = Some bytes }

-- a stream that failed as often before and after, and had and has these bytes
abbrev pub passes : List ℕ → List ℕ → Passage
passes before after = record { before = stream 0 before; after = stream 0 after }

-- a stream that failed once
abbrev pub fails : List ℕ → List ℕ → Passage
fails before after = record { before = stream 0 before; after = stream 1 after }

-- a text is right for bytes if it is these bytes
abbrev pub Same : List ℕ → List ℕ → Type 0
Same bytes text = text ≡ bytes

-- the counts of a broom, all different
abbrev pub some_line : BroomLine
some_line = record {
  broom = 1;
  drained = 2;
  moved = 3;
  programmed = 4;
  erased = 5;
  kept = 6;
  retired = 7;
  lost = 8;
  pinned = 9;
  stale = 10;
  idle = 11;
}

-- a session ended with this status, whatever its files were; their names, why they were not opened, and their bytes are known by functions of
-- numbers
abbrev pub EndsWith : ℕ → List Text → Passage → Passage → Passage → Type 0
EndsWith status words input output errors =
    (named : ℕ → Option Text) × (refused : ℕ → Option OpenFault) × (contents : ℕ → Option (List ℕ)) × (old : RunFiles ℕ) × (new : RunFiles ℕ)
    × EndsSession status words input output errors (filings named refused contents old new)

-- a session ended so, whatever its files were
abbrev pub EndsBy : Result (Unit {0}) Stop → List Text → Passage → Passage → Passage → Type 0
EndsBy ending words input output errors =
    (named : ℕ → Option Text) × (refused : ℕ → Option OpenFault) × (contents : ℕ → Option (List ℕ)) × (old : RunFiles ℕ) × (new : RunFiles ℕ)
    × Explains ending words input output (filings named refused contents old new) × TellsEnding ending errors

-- a session played all that it read on the device that the words describe, and wrote the text that their options want of it
pub record PlaysAll (words : List Text) (input output : Passage) : Type 0 where
  pub given : Options
  pub told : AreOptionsOf words given
  pub geo : Geometry
  pub numbers : numbers_of geo ≡ numbers_given given
  pub text : Tells Whole (IsTextFor given geo) input.before output
  pub end : IsAtEnd input.after.bytes
  pub input_unfailed : input.after.failures ≡ input.before.failures
  pub output_unfailed : output.after.failures ≡ output.before.failures

-- the words write this text for an option
abbrev pub Gives : List Text → Text → Text → Type 0
Gives words name text = one_of name (rows_named words) ≡ Some text

-- a session reports that this file of the run was not written, for this reason, where this is known of why files were not opened
abbrev pub Reports : RunFile → FileStop → (ℕ → Option OpenFault) → Type 0
Reports file why refused =
    (words : List Text) × (input : Passage) × (output : Passage) × (named : ℕ → Option Text) × (contents : ℕ → Option (List ℕ)) × (old : RunFiles ℕ)
    × (new : RunFiles ℕ) × ExplainsStop (stop.File file why) words input output (filings named refused contents old new)

-- it is known of each file that it was not opened because the run already uses it
abbrev pub in_use : ℕ → Option OpenFault
in_use file = Some open_fault.InUse

-- it is known of each file that the system refused to open it
abbrev pub system_refused : ℕ → Option OpenFault
system_refused file = Some open_fault.Refused

-- it is not known of any file why it was not opened
abbrev pub untold : ℕ → Option OpenFault
untold file = None

-- no file's name is known
abbrev pub untold_name : ℕ → Option Text
untold_name file = None

-- it is known of each file that it was opened by the name b
abbrev pub named_b : ℕ → Option Text
named_b file = Some (codes "b")

-- no file's bytes are known
abbrev pub untold_bytes : ℕ → Option (List ℕ)
untold_bytes file = None

-- files of a session, of which it is only known how often their calls failed
abbrev pub unknown_files : RunFiles ℕ → RunFiles ℕ → Filings
unknown_files old new = filings untold_name untold untold_bytes old new

-- a session stopped before it opened a file
abbrev pub IsEarly : Stop → Type 0
IsEarly (stop.Arguments text) = ⊤
IsEarly (stop.Geometry found) = ⊤
IsEarly stop.Memory = ⊤
IsEarly _ = ⊥

-- no call of a file of a run failed
abbrev pub NeitherFails : RunFiles ℕ → RunFiles ℕ → Type 0
NeitherFails old new = (failures_of new.wear ≡ failures_of old.wear) × (failures_of new.collections ≡ failures_of old.collections)
