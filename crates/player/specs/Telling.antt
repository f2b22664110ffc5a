-- What a session writes to standard error.
use Rattle.std.specs.Prelude.{◌≡◌, ℕ, List, [], ◌++◌, codes, decimal, string_bytes, Result, Ok, Err}
use Rattle.geometry.specs.Limits.{fault_name}
use Rattle.answers.specs.{Outcome.run_text, Streams.Part, Streams.Passage, Streams.Whole, Streams.Writes}
use Rattle.player.specs.declared.{refusal.Refusal.Refusal, run_files.FileStop.FileStop, run_files.RunFile.RunFile, stop.Stop.Stop}
use Rattle.player.specs.declared.refusal.Refusal.TheVariants as refusal
use Rattle.player.specs.declared.run_files.FileStop.TheVariants as file_stop
use Rattle.player.specs.declared.run_files.RunFile.TheVariants as run_file
use Rattle.player.specs.declared.stop.Stop.TheVariants as stop

-- the name of a file of a run
abbrev pub file_name : RunFile → List ℕ
file_name run_file.Wear = codes "wear"
file_name run_file.Collections = codes "collections"

-- why a file of a run was not written
abbrev pub file_text : FileStop → List ℕ
file_text file_stop.NotWithWorkers = codes ": not with workers"
file_text file_stop.NotOpened = codes ": not opened"
file_text file_stop.NotItsOwn = codes ": not a file of its own"
file_text file_stop.Failed = codes ": failed"

-- why writes were refused, as the answers of their lines say it
abbrev pub refusal_text : Refusal → List ℕ
refusal_text refusal.Worn = codes "worn"
refusal_text refusal.Full = codes "full"

-- what says why a session stopped: a line, or clap's text if the arguments are refused
abbrev pub text_of : Stop → List ℕ
text_of (stop.Arguments text) = string_bytes text
text_of (stop.Encoding place) = codes "argument " ++ decimal place ++ codes ": not UTF-8\n"
text_of (stop.Geometry found) = codes "geometry: " ++ fault_name found ++ codes "\n"
text_of (stop.Run found) = run_text found ++ codes "\n"
text_of stop.Help = codes "output: failed\n"
text_of stop.Memory = codes "memory: refused\n"
text_of (stop.File file why) = file_name file ++ file_text why ++ codes "\n"
text_of (stop.Refused why count) = codes "writes refused: " ++ decimal count ++ codes " " ++ refusal_text why ++ codes "\n"

-- the same if it is a line of our own, and nothing if it is clap's text
abbrev pub stop_line : Stop → List ℕ
stop_line (stop.Arguments text) = []
stop_line why = text_of why

-- a text was written whole if no call of the writer failed, and otherwise a beginning of it
pub record IsTold (text : List ℕ) (errors : Passage) : Type 0 where
  pub part : Writes Part text errors
  pub whole : errors.after.failures ≡ errors.before.failures → Writes Whole text errors

-- the text of this stop was written, once
abbrev pub TellsStop : Stop → Passage → Type 0
TellsStop why errors = IsTold (text_of why) errors

-- a session that ends well writes nothing, and any other says why it stopped
abbrev pub TellsEnding : Result (Unit {0}) Stop → Passage → Type 0
TellsEnding (Ok _) errors = errors.after ≡ errors.before
TellsEnding (Err why) errors = TellsStop why errors
