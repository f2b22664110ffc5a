-- How a session of the program ends.
use Rattle.std.specs.Prelude.{◌≡◌, ◌≢◌, ◌⊎◌, ⊤, ℕ, zero, suc, Bool, not, List, [], true, MatchOption, IfSome, Option, Some, is_some, option_map, if◌then◌else◌}
use Rattle.std.specs.{Prelude.Result, Prelude.Ok, Prelude.Err, Io.KnownBytes.IsAtEnd}
use Rattle.clap.specs.{Words.IsAmong, Words.Text, Words.kind_of, declared.error.Error.Error, declared.error.kind.ErrorKind.ErrorKind}
use Rattle.clap.specs.declared.error.kind.ErrorKind.TheVariants as kind
use Rattle.geometry.specs.{Geometry.hosts_of, Geometry.numbers_of, Limits.first_fault, declared.geometry.Geometry.Geometry}
use Rattle.geometry.specs.declared.limits.GeometryFault.{GeometryFault}
use Rattle.trace.specs.declared.fault.TraceFaultKind.{TraceFaultKind}
use Rattle.streams.specs.declared.{named_file.OpenFault.OpenFault, watched.Watched.Watched}
use Rattle.streams.specs.Watched.{inner_of}
use Rattle.trace.specs.declared.fault.TraceFaultKind.TheVariants as fault
use Rattle.answers.specs.{Outcome.ExplainsRun, declared.fault.RunFault.RunFault, declared.delivery.OutputFailed.OutputFailed}
use Rattle.answers.specs.Streams.{Passage, Stream, Tells, over, stream_of, Portion, Nothing, Whole, WritesOut, TellsIf}
use Rattle.streams.specs.declared.named_file.OpenFault.TheVariants as open_fault
use Rattle.answers.specs.declared.fault.RunFault.TheVariants as run
use Rattle.runs.specs.{Logs.IsBroomLogOf, Logs.IsLogOf, ByWorkers.WasPlayed, ByWorkers.answers_played, ByWorkers.commands_played}
use Rattle.runs.specs.{Outputs.IsOutputByWorkers, Outputs.IsOutputOf, Playing.IsRefusedCount, Playing.refused_by_workers, Logs.IsWearOf}
use Rattle.runs.specs.declared.{files.RunFiles.RunFiles, files.RunOptions.RunOptions, played_by_workers.PlayedByWorkers.PlayedByWorkers}
use Rattle.runs.specs.Logs.{portion_left}
use Rattle.player.specs.{CommandLine.AreOptionsOf, CommandLine.faults_given, CommandLine.numbers_given, Telling.TellsEnding}
use Rattle.player.specs.declared.{command_line.Options.Options, refusal.Refusal.Refusal, run_files.FileStop.FileStop, run_files.RunFile.RunFile, stop.Stop.Stop}
use Rattle.player.specs.declared.refusal.Refusal.TheVariants as refusal
use Rattle.player.specs.declared.run_files.FileStop.TheVariants as file_stop
use Rattle.player.specs.declared.run_files.RunFile.TheVariants as run_file
use Rattle.player.specs.declared.stop.Stop.TheVariants as stop

-- the exit status if a trace is not played
abbrev pub status_of_trace : TraceFaultKind → ℕ
status_of_trace fault.Read = 1
status_of_trace fault.Memory = 4
status_of_trace _ = 3

-- the exit status of a run that stopped
abbrev pub status_of_run : RunFault → ℕ
status_of_run (run.Trace found) = status_of_trace found.kind
status_of_run run.Memory = 4
status_of_run run.Threads = 4
status_of_run run.Output = 1

-- the exit status if a file of a run was not written
abbrev pub status_of_file : FileStop → ℕ
status_of_file file_stop.NotWithWorkers = 2
status_of_file file_stop.NotOpened = 1
status_of_file file_stop.NotItsOwn = 2
status_of_file file_stop.Failed = 1

-- why a file that could not be opened is not written
abbrev pub stop_of_open : OpenFault → FileStop
stop_of_open open_fault.Refused = file_stop.NotOpened
stop_of_open open_fault.InUse = file_stop.NotItsOwn

-- the exit status of a session that stopped
abbrev pub status_of : Stop → ℕ
status_of (stop.Arguments text) = 2
status_of (stop.Encoding place) = 2
status_of (stop.Geometry found) = 2
status_of (stop.Run found) = status_of_run found
status_of stop.Help = 1
status_of stop.Memory = 4
status_of (stop.File file why) = status_of_file why
status_of (stop.Refused why count) = 5

-- the device that the words of a command line describe: clap finds no fault in the words
pub record IsDescribed (words : List Text) (geo : Geometry) : Type 0 where
  pub accepted : faults_given words ≡ []
  pub given : Options
  pub told : AreOptionsOf words given
  pub numbers : numbers_of geo ≡ numbers_given given

-- clap finds no fault in the words, but they describe no device, for this reason
pub record DescribesNone (words : List Text) (found : GeometryFault) : Type 0 where
  pub accepted : faults_given words ≡ []
  pub given : Options
  pub told : AreOptionsOf words given
  pub first : first_fault (numbers_given given) ≡ Some found

-- the output of a run by this many workers, if its answers are wanted or not: with no worker it is that of one thread
abbrev pub IsTextBy : ℕ → Bool → Geometry → List ℕ → List ℕ → Type 0
IsTextBy zero answers geo bytes text = IsOutputOf answers geo bytes text
IsTextBy (suc others) answers geo bytes text = IsOutputByWorkers answers geo bytes text

-- the output of a run on this device, by a worker for each of its hosts: the text, or its last line alone if the options leave out the answers
abbrev pub IsTextFor : Options → Geometry → List ℕ → List ℕ → Type 0
IsTextFor given geo bytes text = IsTextBy (hosts_of geo) (not given.quiet) geo bytes text

-- the log of a run by this many workers: with no worker it lists the collections, and otherwise what each broom has done within this limit of
-- drains by one survey
abbrev pub IsLogBy : ℕ → ℕ → Geometry → List ℕ → List ℕ → Type 0
IsLogBy zero drains geo bytes text = IsLogOf geo bytes text
IsLogBy (suc others) drains geo bytes text = IsBroomLogOf drains geo bytes text

-- the log of a run on this device, by a worker for each of its hosts, with the drains by one survey that the options give
abbrev pub IsLogFor : Options → Geometry → List ℕ → List ℕ → Type 0
IsLogFor given geo bytes text = IsLogBy (hosts_of geo) given.drains geo bytes text

-- how much of the log a run by this many workers that stopped leaves in its file: by workers nothing
abbrev pub portion_left_by : ℕ → RunFault → Bool → Portion
portion_left_by zero found wanted = portion_left found wanted
portion_left_by (suc others) found wanted = Nothing

-- a file was opened by this name, if its name is known, and no byte of it changed by that
pub record IsOpenedAs {F : Type 0} (name_in : F → Option Text) (contents : F → Option (List ℕ)) (old : Watched F) (name : Text) : Type 0 where
  pub opened : Watched F
  pub named : IfSome (name_in (inner_of opened)) (λ known. known ≡ name)
  pub untouched : stream_of contents opened ≡ stream_of contents old

-- a file was not opened for this reason, if the reason is known
abbrev pub IsRefusedAs : {F : Type 0} → (F → Option OpenFault) → Watched F → OpenFault → Type 0
IsRefusedAs fault_in new fault = IfSome (fault_in (inner_of new)) (λ known. known ≡ fault)

-- What a clause sees of a file over a session: by which name it was opened, why it was not, and its stream before and after
pub record Filing : Type 1 where
  pub is_opened_as : Text → Type 0
  pub is_refused_as : OpenFault → Type 0
  pub stream : Passage

-- What a clause sees of the files that a run writes in addition to its answers
pub record Filings : Type 1 where
  pub wear : Filing
  pub collections : Filing

-- a file over a session, with the functions that give its name, why it was not opened, and its bytes
abbrev pub filing : {F : Type 0} → (F → Option Text) → (F → Option OpenFault) → (F → Option (List ℕ)) → Watched F → Watched F → Filing
filing name_in fault_in contents old new = record {
  is_opened_as = IsOpenedAs name_in contents old;
  is_refused_as = IsRefusedAs fault_in new;
  stream = over contents old new;
}

-- the files of a run over a session
abbrev pub filings : {F : Type 0} → (F → Option Text) → (F → Option OpenFault) → (F → Option (List ℕ)) → RunFiles F → RunFiles F → Filings
filings name_in fault_in contents old new = record {
  wear = filing name_in fault_in contents old.wear new.wear;
  collections = filing name_in fault_in contents old.collections new.collections;
}

-- nothing was written to a file, and no call of it failed
abbrev pub IsUntouched : Filing → Type 0
IsUntouched file = file.stream.after ≡ file.stream.before

-- nothing was written to the files, and no call of theirs failed
abbrev pub AreUntouched : Filings → Type 0
AreUntouched files = IsUntouched files.wear × IsUntouched files.collections

-- a file was not opened, for this reason: nothing was written to it, but a call of it failed
abbrev pub HasFailedToOpen : OpenFault → Filing → Type 0
HasFailedToOpen fault file =
    file.is_refused_as fault × (file.stream.after.bytes ≡ file.stream.before.bytes) × (file.stream.after.failures ≢ file.stream.before.failures)

-- the name that the options give to a file, if they give one
abbrev pub name_given : RunFile → Options → Option Text
name_given run_file.Wear given = option_map (λ name. name.now) given.wear
name_given run_file.Collections given = option_map (λ name. name.now) given.collections

-- a file that the options name was opened by that name, and no byte of it changed
abbrev pub IsOpened : Option Text → Filing → Type 0
IsOpened asked file = MatchOption asked ⊤ (λ name. file.is_opened_as name) × IsUntouched file

-- one of the files was not opened, for this reason: the wear, and the other is untouched, or the collections, after the wear was opened if the
-- options name it
abbrev pub FailsToOpen : RunFile → OpenFault → Options → Filings → Type 0
FailsToOpen run_file.Wear fault given files = HasFailedToOpen fault files.wear × IsUntouched files.collections
FailsToOpen run_file.Collections fault given files = HasFailedToOpen fault files.collections × IsOpened (name_given run_file.Wear given) files.wear

-- how a file was written, if the options name it: it was opened by that name, and received a text that is right for the bytes of the trace, or a
-- beginning of one if calls of it failed. Nothing is written to a file that they don't name, and no call of it fails
abbrev pub WritesFile : Option Text → (List ℕ → List ℕ → Type 0) → Stream → Filing → Result (Unit {0}) OutputFailed → Type 0
WritesFile asked IsTextOf input file result =
    MatchOption asked ⊤ (λ name. file.is_opened_as name) × TellsIf (is_some asked) IsTextOf input file.stream result

-- what a run that stopped leaves in its files: by one thread a beginning of the log if the answers could not be written, and otherwise nothing
abbrev pub LeavesFiles : RunFault → Geometry → Options → Stream → Filings → Type 0
LeavesFiles found geo given input files =
    IsUntouched files.wear × Tells (portion_left_by (hosts_of geo) found (is_some given.collections)) (IsLogOf geo) input files.collections.stream

-- how the options have workers play, and what their run is to write
abbrev pub run_options_of : Options → RunOptions
run_options_of given = record { patience = given.patience; drains = given.drains; answers = not given.quiet; log = is_some given.collections }

-- The run by this many workers refused so many writes: with no worker those that the worn device refused. By workers they are the lines that found
-- no block, in a run of which all is: what was written to the output, and to the log, if the options name one
abbrev pub IsOneRun : ℕ → Geometry → Options → Stream → Passage → Passage → ℕ → Type 0
IsOneRun zero geo given input output log refused = IfSome input.bytes (λ bytes. IsRefusedCount geo bytes refused)
IsOneRun (suc others) geo given input output log refused =
    (run : PlayedByWorkers) × WasPlayed geo (run_options_of given) input output log run
    × (refused ≡ refused_by_workers (commands_played run) (answers_played run))

-- the trace was played on a device: the input was read to its end, what the options want of the text of all its bytes was written, no call
-- failed, and so many writes were refused
pub record PlaysOn (geo : Geometry) (given : Options) (input output : Passage) (files : Filings) : Type 0 where
  pub end : IsAtEnd input.after.bytes
  pub text : Tells Whole (IsTextFor given geo) input.before output
  pub input_unfailed : input.after.failures ≡ input.before.failures
  pub output_unfailed : output.after.failures ≡ output.before.failures
  pub refused : ℕ
  pub run : IsOneRun (hosts_of geo) geo given input.before output files.collections.stream refused

-- why a run by this many workers refuses writes
abbrev pub refusal_by : ℕ → Refusal
refusal_by zero = refusal.Worn
refusal_by (suc others) = refusal.Full

-- if the options want all writes done, this many that were refused are counted, and otherwise none
abbrev pub counted_refusals : Options → ℕ → ℕ
counted_refusals given refused = if given.all_written then refused else 0

-- how a run ends by how its log and its wear were written, and by how many refused writes are counted: the first file that failed is reported, and
-- otherwise the refused writes
abbrev pub outcome_of : Result (Unit {0}) OutputFailed → Result (Unit {0}) OutputFailed → Refusal → ℕ → Result (Unit {0}) Stop
outcome_of (Err _) wear why count = Err (stop.File run_file.Collections file_stop.Failed)
outcome_of (Ok _) (Err _) why count = Err (stop.File run_file.Wear file_stop.Failed)
outcome_of (Ok done) (Ok _) why zero = Ok done
outcome_of (Ok done) (Ok _) why (suc n) = Err (stop.Refused why (suc n))

-- The trace was played on a device, and the run ended so: by how its files were written, and by how many writes it refused. The log has what one
-- thread collected or, by workers, what the brooms have done; the other file has the wear of the device after the trace
pub record Finishes (ending : Result (Unit {0}) Stop) (geo : Geometry) (given : Options) (input output : Passage) (files : Filings) : Type 0 where
  pub plays : PlaysOn geo given input output files
  pub log : Result (Unit {0}) OutputFailed
  pub log_written : WritesFile (name_given run_file.Collections given) (IsLogFor given geo) input.before files.collections log
  pub wear : Result (Unit {0}) OutputFailed
  pub wear_written : WritesFile (name_given run_file.Wear given) (IsWearOf geo) input.before files.wear wear
  pub ending_is : ending ≡ outcome_of log wear (refusal_by (hosts_of geo)) (counted_refusals given plays.refused)

-- nothing was read, and nothing written to the output
abbrev pub MovesNothing : Passage → Passage → Type 0
MovesNothing input output = (input.after ≡ input.before) × (output.after ≡ output.before)

-- why a file of a run was not written: it is the wear and workers are asked for, the system did not open it, it is in use by the run, or it failed
-- as it was written
abbrev pub ExplainsFile : RunFile → FileStop → Geometry → Options → Passage → Passage → Filings → Type 0
ExplainsFile file file_stop.NotWithWorkers geo given input output files =
    (hosts_of geo ≢ 0) × (file ≡ run_file.Wear) × (is_some (name_given file given) ≡ true) × MovesNothing input output × AreUntouched files
ExplainsFile file file_stop.NotOpened geo given input output files =
    (is_some (name_given file given) ≡ true) × MovesNothing input output × FailsToOpen file open_fault.Refused given files
ExplainsFile file file_stop.NotItsOwn geo given input output files =
    (is_some (name_given file given) ≡ true) × MovesNothing input output × FailsToOpen file open_fault.InUse given files
ExplainsFile file file_stop.Failed geo given input output files = Finishes (Err (stop.File file file_stop.Failed)) geo given input output files

-- how a run on a device ended, by the options
abbrev pub EndsOn : Result (Unit {0}) Stop → Geometry → Options → Passage → Passage → Filings → Type 0
EndsOn (Ok done) geo given input output files = Finishes (Ok done) geo given input output files
EndsOn (Err (stop.Run found)) geo given input output files =
    ExplainsRun (IsTextFor given) geo input output found × LeavesFiles found geo given input.before files
EndsOn (Err (stop.File file why)) geo given input output files = ExplainsFile file why geo given input output files
EndsOn (Err (stop.Refused why count)) geo given input output files = Finishes (Err (stop.Refused why count)) geo given input output files
EndsOn _ _ _ _ _ _ = ⊥

-- the files that the options name were opened, or one of them was not
abbrev pub OpensFiles : Result (Unit {0}) Stop → Options → Filings → Type 0
OpensFiles (Ok _) given files = IsOpened (name_given run_file.Wear given) files.wear × IsOpened (name_given run_file.Collections given) files.collections
OpensFiles (Err (stop.File file why)) given files =
    (fault : OpenFault) × (why ≡ stop_of_open fault) × (is_some (name_given file given) ≡ true) × FailsToOpen file fault given files
OpensFiles _ _ _ = ⊥

-- the words ask for help or for the version, which clap counts among its faults
abbrev pub AsksClap : ErrorKind → Type 0
AsksClap found = (found ≡ kind.DisplayHelp) ⊎ (found ≡ kind.DisplayVersion)

-- some text was written so
abbrev pub WritesSome : Result (Unit {0}) OutputFailed → Passage → Type 0
WritesSome result output = (text : List ℕ) × WritesOut text output result

-- the words asked for help or for the version, whose text was written so, and nothing was read
pub record Helped (result : Result (Unit {0}) OutputFailed) (words : List Text) (input output : Passage) (files : Filings) : Type 0 where
  pub error : Error
  pub asked : IsAmong (kind_of error) (faults_given words)
  pub is_request : AsksClap (kind_of error)
  pub unread : input.after ≡ input.before
  pub out : WritesSome result output
  pub no_file : AreUntouched files

-- clap finds a fault in the words, which asks neither for help nor for the version
pub record IsRefused (words : List Text) : Type 0 where
  pub error : Error
  pub found : IsAmong (kind_of error) (faults_given words)
  pub no_request : AsksClap (kind_of error) → ⊥

-- the words describe a device, and the run on it ended so
pub record Ran (ending : Result (Unit {0}) Stop) (words : List Text) (input output : Passage) (files : Filings) : Type 0 where
  pub geo : Geometry
  pub device : IsDescribed words geo
  pub ends : EndsOn ending geo device.given input output files

-- why a session stopped. Nothing is on the output except after `Output` of a run, `Help`, `Failed` of a file and `Refused`; only a run reads
-- anything; and nothing is in a file except after `Output` of a run, the `Failed` of a file and `Refused`
abbrev pub ExplainsStop : Stop → List Text → Passage → Passage → Filings → Type 0
ExplainsStop (stop.Arguments text) words input output files = IsRefused words × MovesNothing input output × AreUntouched files
ExplainsStop (stop.Encoding place) words input output files = ⊥
ExplainsStop (stop.Geometry found) words input output files = DescribesNone words found × MovesNothing input output × AreUntouched files
ExplainsStop stop.Help words input output files = (failed : OutputFailed) × Helped (Err failed) words input output files
ExplainsStop stop.Memory words input output files = MovesNothing input output × AreUntouched files
ExplainsStop why words input output files = Ran (Err why) words input output files

-- how an attempt ended
abbrev pub Explains : Result (Unit {0}) Stop → List Text → Passage → Passage → Filings → Type 0
Explains (Ok done) words input output files = Ran (Ok done) words input output files ⊎ Helped (Ok done) words input output files
Explains (Err why) words input output files = ExplainsStop why words input output files

-- the exit status
abbrev pub status_after : Result (Unit {0}) Stop → ℕ
status_after (Ok _) = 0
status_after (Err why) = status_of why

-- how a session ended, and that the status and what was written to standard error say so
pub record EndsSession (status : ℕ) (words : List Text) (input output errors : Passage) (files : Filings) : Type 0 where
  pub ending : Result (Unit {0}) Stop
  pub status_is : status ≡ status_after ending
  pub why : Explains ending words input output files
  pub told : TellsEnding ending errors

-- what follows from the words that clap refused with an error: the help or the version is written, and every other text goes to standard
-- error
abbrev pub AnswersClap : Error → Result (Unit {0}) Stop → Passage → Type 0
AnswersClap error (Ok done) output = AsksClap (kind_of error) × WritesSome (Ok done) output
AnswersClap error (Err (stop.Arguments text)) output =
    (kind_of error ≢ kind.OutOfMemory) × (AsksClap (kind_of error) → ⊥) × (output.after ≡ output.before)
AnswersClap error (Err stop.Help) output = AsksClap (kind_of error) × (failed : OutputFailed) × WritesSome (Err failed) output
AnswersClap error (Err stop.Memory) output = output.after ≡ output.before
AnswersClap _ _ _ = ⊥
