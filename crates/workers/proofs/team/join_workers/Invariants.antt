use Rattle.std.proofs.Common.{◌≡◌, ◌+◌, ◌++◌, List, deque_capacity, deque_len, map}
use Rattle.workers.specs.{declared.worker.Worker.Worker, Tasks.asked, Tasks.WerePlayed}
use Rattle.workers.proofs.team.join_workers.Given as goal

abbrev pub invariant-loop-task : goal.invariant-loop-task
invariant-loop-task g l = record {
  played : deque_len l.fn.workers ≡ 0 → (rest : List Worker) → WerePlayed (map (asked l.limits) l.tasks.items) rest
      → WerePlayed (map (asked l.limits) l.fn.tasks.items) (l.workers.items ++ rest);
  joined : deque_len l.workers + deque_len l.tasks ≡ deque_len l.fn.workers + deque_len l.fn.tasks;
  from_room : deque_capacity l.tasks ≡ deque_capacity l.fn.tasks;
  to_room : deque_capacity l.workers ≡ deque_capacity l.fn.workers;
}

abbrev pub decreases-loop-task : goal.decreases-loop-task
decreases-loop-task g l = deque_len l.tasks
