use Rattle.std.proofs.Common.{◌≡◌, ◌+◌, ◌++◌, deque_capacity, deque_len, length, map}
use Rattle.workers.specs.Tasks.{asked, with_limits}
use Rattle.workers.proofs.team.start_workers.Given as goal

abbrev pub invariant-loop-gate : goal.invariant-loop-gate
invariant-loop-gate g l = record {
  asks : map (asked l.limits) l.tasks.items ++ map (with_limits l.limits) l.workers.items ≡ map (asked l.limits) l.fn.tasks.items
      ++ map (with_limits l.limits) l.fn.workers.items;
  left : l.gate-index + deque_len l.workers ≡ length l.fn.gates;
  started : deque_len l.tasks ≡ deque_len l.fn.tasks + l.gate-index;
  from_room : deque_capacity l.workers ≡ deque_capacity l.fn.workers;
  to_room : deque_capacity l.tasks ≡ deque_capacity l.fn.tasks;
}
