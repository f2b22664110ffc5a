-- What a worker can do in a round.
use Rattle.std.specs.Prelude.{◌≡◌, ◌<◌, ◌≤◌, ℕ, All, List, drop, length}
use Rattle.std.proofs.Props.{props}
use Rattle.flash_table.specs.declared.pass.Pass.{Pass}
use Rattle.flash_table.specs.Flash.{geometry_of}
use Rattle.host.specs.Ready.{IsReady}
use Rattle.trace.specs.declared.commands.Command.{Command}
use Rattle.volume.specs.declared.volume.Volume.{Volume}
use Rattle.volume.specs.Volume.{flash_of, page_bytes}
use Rattle.rounds.specs.Answers.{page_size_of, said_in, HasSpaceFor}
use Rattle.rounds.specs.declared.answer_list.Answers.{Answers}
use Rattle.workers.specs.Playable.{IsLine, lines_at}

-- The pass is ready, each index is one of the trace's, the device can do the lines there, there are no more answers than lines, and there is
-- room for the answers of those that are not answered yet
pub record IsAble (volume : Volume) (lines : List Command) (pass : Pass) (places : List ℕ) (answers : Answers) (buffer : List ℕ) : Type 0 where
  pub ready : IsReady (flash_of volume) pass
  pub there : All (λ p. p < length lines) places
  pub doable : All (IsLine (geometry_of (flash_of volume))) (lines_at lines places)
  pub within : length (said_in answers) ≤ length places
  pub page : page_size_of answers ≡ page_bytes volume
  pub space : HasSpaceFor answers (lines_at lines (drop (length (said_in answers)) places))
  pub paged : length buffer ≡ page_bytes volume

-- That a worker is able is a fact with at most one proof, so that a struct can keep it
pub IsAble-prop : (volume : Volume) (lines : List Command) (pass : Pass) (places : List ℕ) (answers : Answers) (buffer : List ℕ)
    → IsProp (IsAble volume lines pass places answers buffer)
IsAble-prop volume lines pass places answers buffer = hlevel props
