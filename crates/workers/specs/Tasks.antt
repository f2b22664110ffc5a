-- The workers of a round while they play.
use Rattle.std.specs.Prelude.{◌≡◌, ◌+◌, ◌≤◌, ◌++◌, List, [], ◌∷◌, map}
use Rattle.std.specs.VecDeque.{deque_capacity, deque_len}
use Rattle.std.specs.declared.collections.VecDeque.{VecDeque}
use Rattle.std.specs.Global.{Global}
use Rattle.workers.specs.declared.worker.round_limits.RoundLimits.{RoundLimits}
use Rattle.workers.specs.declared.worker.Worker.{Worker}
use Rattle.workers.specs.declared.worker.tasks.Task.{Task}
use Rattle.workers.specs.declared.worker.tasks.Task.TheVariants.{Idle, Playing}
use Rattle.workers.specs.Workers.{HasPlayed}

-- a worker, and the limits of its round
abbrev pub with_limits : RoundLimits → Worker → Worker × RoundLimits
with_limits n p = (p, n)

-- what a task was asked to do: to play the lines of this worker within these limits
abbrev pub asked : RoundLimits → Task → Worker × RoundLimits
asked n (Idle worker) = (worker, n)
asked n (Playing handle) = (handle.promise.before.value, handle.promise.limits)

-- each worker has played as it was asked
abbrev pub WerePlayed : List (Worker × RoundLimits) → List Worker → Type 0
WerePlayed [] [] = Unit {0}
WerePlayed [] (r ∷ workers) = ⊥
WerePlayed (x ∷ asks) [] = ⊥
WerePlayed (x ∷ asks) (r ∷ workers) = HasPlayed x.1 x.0 r × WerePlayed asks workers

-- each worker has played, in order, within these limits
abbrev pub HavePlayed : RoundLimits → List Worker → List Worker → Type 0
HavePlayed n workers back = WerePlayed (map (with_limits n) workers) back

-- these workers have started, behind others, each asked to play its lines
abbrev pub HaveSetOut : RoundLimits → List Task → List Worker → List Task → Type 0
HaveSetOut n before workers after = map (asked n) after ≡ map (asked n) before ++ map (with_limits n) workers

-- some of one row have gone to another or have been removed, and both rows keep their room
pub record HaveGone {X Y : Type 0} (from from' : VecDeque X Global) (to to' : VecDeque Y Global) : Type 0 where
  pub few : deque_len from' + deque_len to' ≤ deque_len from + deque_len to
  pub from_room : deque_capacity from' ≡ deque_capacity from
  pub to_room : deque_capacity to' ≡ deque_capacity to
