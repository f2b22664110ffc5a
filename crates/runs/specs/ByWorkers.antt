-- What a run by workers has played, and what it has written of that.
use Rattle.std.specs.{Prelude.◌≡◌, Prelude.◌≤◌, Prelude.ℕ, Prelude.List, Prelude.IfSome, Prelude.Ok, Prelude.length, Arc.arc_value}
use Rattle.geometry.specs.{Geometry.hosts_of, declared.geometry.Geometry.Geometry}
use Rattle.trace.specs.{Trace.commands_of, declared.commands.Command.Command}
use Rattle.answers.specs.Streams.{Passage, Stream, Whole, Writes, WritesIf}
use Rattle.rounds.specs.{Lines.Said, Merging.HaveAnswers, Merging.answers_by}
use Rattle.workers.specs.{Runs.ArePlayed, Served.AllHaveServed}
use Rattle.runs.specs.{Logs.brooms_text, Outputs.written_by_workers, declared.files.RunOptions.RunOptions}
use Rattle.runs.specs.declared.played_by_workers.PlayedByWorkers.{PlayedByWorkers}

-- the commands that a run has played
abbrev pub commands_played : PlayedByWorkers → List Command
commands_played run = arc_value run.commands

-- the answers of each of its workers
abbrev pub answers_played : PlayedByWorkers → ℕ → List Said
answers_played run = answers_by run.end.rows.items

-- there are answers of at most 500 workers, with one for each of their lines
pub record IsAnswered (run : PlayedByWorkers) : Type 0 where
  pub few : length run.end.rows.items ≤ 500
  pub answers : HaveAnswers (answers_played run) (commands_played run)

-- The commands that the input's bytes mean were played on a device of this geometry, with a list of answers for each worker that has one for
-- each of its lines, and within the limit of drains by one survey. The output that is wanted of these commands and answers was written,
-- and the log, if it is wanted, of the brooms of the same run
pub record WasPlayed (geo : Geometry) (options : RunOptions) (input : Stream) (output file : Passage) (run : PlayedByWorkers) : Type 0 where
  pub meaning : IfSome input.bytes (λ bytes. commands_of bytes geo ≡ Ok (commands_played run))
  pub workers : length run.end.rows.items ≡ hosts_of geo
  pub answered : IsAnswered run
  pub played : ArePlayed geo (commands_played run) (answers_played run)
  pub written : Writes Whole (written_by_workers options.answers (commands_played run) (answers_played run)) output
  pub served : AllHaveServed geo options.drains run.end.brooms.items
  pub log : WritesIf options.log (brooms_text run.end.brooms.items) file run.log
