-- What a worker has done in a round.
use Rattle.std.specs.Prelude.{◌≡◌, ℕ, Bool, List, [], drop, length, nat_lt}
use Rattle.std.specs.List.{take_while}
use Rattle.std.specs.Arc.{arc_value}
use Rattle.flash_rule.specs.declared.facts.Name.TheVariants.{Pass as APass}
use Rattle.flash_rule.specs.declared.facts.Role.TheVariants.{Player}
use Rattle.flash_table.specs.Flash.{view_of}
use Rattle.trace.specs.declared.commands.Command.{Command}
use Rattle.rounds.specs.Answers.{said_in}
use Rattle.rounds.specs.declared.answer_list.Answers.{Answers}
use Rattle.rounds.specs.Playing.{Played}
use Rattle.workers.specs.Playable.{HasAnswered, added, lines_at}
use Rattle.workers.specs.declared.worker.round_limits.RoundLimits.{RoundLimits}
use Rattle.workers.specs.declared.worker.Worker.{Worker}

-- the answers of a worker's lines so far
abbrev pub answers_kept : Worker → Answers
answers_kept p = p.answers

-- how many of its lines the worker has answered
abbrev pub answered : Worker → ℕ
answered p = length (said_in p.answers)

-- a line at this index comes before the end of a round
abbrev pub is_before : ℕ → ℕ → Bool
is_before end place = nat_lt place end

-- the indexes of the worker's lines of the round with this end: of the lines without an answer those before it, up to the first one that isn't
abbrev pub round_places : ℕ → Worker → List ℕ
round_places end p = take_while (is_before end) (drop (answered p) p.places.items)

-- the worker's lines of the round
abbrev pub round_lines : ℕ → Worker → List Command
round_lines end p = lines_at (arc_value p.commands) (round_places end p)

-- the worker has no line in the round
abbrev pub IsIdle : ℕ → Worker → Type 0
IsIdle end p = round_places end p ≡ []

-- The worker's pass has played the lines of the round, in order, and nothing else of the worker has changed except that their answers were
-- added, and its buffer
pub record HasPlayed (limits : RoundLimits) (p r : Worker) : Type 0 where
  pub volume : arc_value r.volume ≡ arc_value p.volume
  pub commands : arc_value r.commands ≡ arc_value p.commands
  pub places : r.places.items ≡ p.places.items
  pub answers : HasAnswered (round_lines limits.end p) p.answers r.answers
  pub played : (t : ℕ) → (view_of p.pass).role ≡ Player (APass t)
      → Played t limits.patience (view_of p.pass) (round_lines limits.end p) (added p.answers r.answers) (view_of r.pass)
