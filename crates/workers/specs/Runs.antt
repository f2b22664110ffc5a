-- A run over the rounds of a trace: what the workers hold, and what was answered so far; and a whole run over the commands of a trace.
use Rattle.std.specs.Prelude.{ℕ, List, ◌≡◌, ◌<◌, All, [], ◌++◌, map, length, slice_index_or}
use Rattle.geometry.specs.Geometry.{hosts_of, sectors_of}
use Rattle.geometry.specs.declared.geometry.Geometry.{Geometry}
use Rattle.trace.specs.declared.commands.Command.{Command}
use Rattle.rounds.specs.Lines.{Said}
use Rattle.rounds.specs.Merging.{merge, IsDisjointTrace, AreAtOneHistory, lines_for, HaveAnswers}
use Rattle.rounds.specs.Told.{lines_text, IsTextOfSome}
use Rattle.std.specs.Arc.{arc_value}
use Rattle.flash_rule.specs.declared.view.View.{View}
use Rattle.rounds.specs.Answers.{said_in}
use Rattle.rounds.specs.Playing.{Plays, LinesFound, calls_done, writes_done}
use Rattle.volume.specs.declared.volume.Volume.{Volume}
use Rattle.volume.specs.Volume.{hosts, sectors}
use Rattle.rounds.specs.Plans.{places_for, ends_of}
use Rattle.workers.specs.declared.worker.Worker.{Worker}
use Rattle.workers.specs.Meetings.{AreSeated, IsAt, PassesMet, passes_of, rest_of, views_of}
use Rattle.workers.specs.Dealing.{HasPlayedNone}
use Rattle.workers.specs.Tasks.{HavePlayed}

-- The commands of a trace were played on a device of this geometry, by a worker for each of its hosts: all lines were answered at one history, and
-- if the trace is disjoint, the text of the answers is that of the trace, with the writes turned away at some set of lines
pub record ArePlayed (geo : Geometry) (commands : List Command) (rows : ℕ → List Said) : Type 0 where
  pub told : AreAtOneHistory (sectors_of geo) (hosts_of geo) commands rows
  pub text : IsDisjointTrace commands → IsTextOfSome (sectors_of geo) commands (lines_text 0 (merge commands rows))

-- A round was played: each worker has played its lines before the end, and then all passes have met
pub record RoundPlayed (volume : Volume) (patience end : ℕ) (workers back : List Worker) : Type 0 where
  pub between : List Worker
  pub played : HavePlayed (record { end = end; patience = patience }) workers between
  pub met : PassesMet volume (passes_of between) (passes_of back)
  pub rest : map rest_of back ≡ map rest_of between

-- the workers can play a round: there is one for each pass of this volume, at its number
pub record AreManned (volume : Volume) (workers : List Worker) : Type 0 where
  pub some : 0 < length workers
  pub all : length workers ≡ hosts volume
  pub at : All (IsAt volume) workers
  pub seated : AreSeated (passes_of workers)

-- the answers of a worker's lines
abbrev pub answers_of : Worker → List Said
answers_of p = said_in p.answers

-- the answers of each worker's lines, by the worker's number
abbrev pub rows_of : List Worker → ℕ → List Said
rows_of workers t = slice_index_or (map answers_of workers) t []

-- a worker has its own lines of this trace
pub record HasOwnLines (trace : List Command) (t : ℕ) (p : Worker) : Type 0 where
  pub commands : arc_value p.commands ≡ trace
  pub places : p.places.items ≡ places_for t trace

-- A run of this trace is about to begin: its workers and sectors are those of the volume, each worker has its own lines and has played
-- none, and no pass has seen a call
pub record HasBegun (volume : Volume) (trace : List Command) (ends : List ℕ) (workers : List Worker) : Type 0 where
  pub rounds : ends ≡ ends_of trace
  pub known : All (λ c. c.worker < length workers) trace
  pub sectors : All (λ c. c.sector < sectors volume) trace
  pub dealt : (t : ℕ) (p : Worker) → t < length workers → HasOwnLines trace t (slice_index_or workers t p)
  pub none : (t : ℕ) (p : Worker) → t < length workers → HasPlayedNone (slice_index_or workers t p)
  pub new : (t : ℕ) → t < length workers → ((views_of volume (passes_of workers) t).seen ≡ []) × ((views_of volume (passes_of workers) t).mine ≡ [])
      × ((views_of volume (passes_of workers) t).programs ≡ [])

-- the blocks that a worker's pass has found taken
abbrev pub denied_by : Volume → List Worker → ℕ → List ℕ
denied_by volume workers t = (views_of volume (passes_of workers) t).denied

-- What a worker has done in a run, by what its pass knows: it has answered its lines one after another, each rightly at a history; it has
-- made exactly their calls; it has programmed a page for each write that was done; and it has found taken, after what it had found taken
-- before, the blocks of the tries of each line, in order
pub record HasRun (t patience : ℕ) (earlier : List ℕ) (lines : List Command) (answers : List Said) (v : View) : Type 0 where
  pub plays : Plays v.numbers.sectors t [] lines answers v.seen
  pub mine : v.mine ≡ calls_done t lines answers
  pub programmed : length v.programs ≡ writes_done lines answers
  pub found : List ℕ
  pub denied : v.denied ≡ earlier ++ found
  pub tried : LinesFound patience v.numbers.blocks lines answers found

-- A run of this trace has ended: each worker has answered all its lines, all at one history, and if the trace is disjoint, the text of the
-- answers is that of the trace, with the writes turned away at some set of lines
pub record HasEnded (volume : Volume) (patience : ℕ) (trace : List Command) (before workers : List Worker) : Type 0 where
  pub count : HaveAnswers (rows_of workers) trace
  pub dealt : (t : ℕ) (p : Worker) → t < length workers → HasOwnLines trace t (slice_index_or workers t p)
  pub told : AreAtOneHistory (sectors volume) (length workers) trace (rows_of workers)
  pub each : (t : ℕ) → t < length workers
      → HasRun t patience (denied_by volume before t) (lines_for t trace) (rows_of workers t) (views_of volume (passes_of workers) t)
  pub text : IsDisjointTrace trace → IsTextOfSome (sectors volume) trace (lines_text 0 (merge trace (rows_of workers)))

-- a run of any trace that these workers were about to play has ended with those
abbrev pub EndsRun : Volume → ℕ → List ℕ → List Worker → List Worker → Type 0
EndsRun volume patience ends before after = (trace : List Command) → HasBegun volume trace ends before → HasEnded volume patience trace before after
