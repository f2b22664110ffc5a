use Rattle.std.proofs.Common.{◌≡◌, ◌+◌, ◌++◌, deque_capacity, deque_len, length, map}
use Rattle.workers.specs.Collecting.{given_to}
use Rattle.workers.proofs.team.start_collectors.Given as goal

abbrev pub invariant-loop-gate : goal.invariant-loop-gate
invariant-loop-gate g l = record {
  all : map given_to l.collecting.items ++ l.collectors.items ≡ map given_to l.fn.collecting.items ++ l.fn.collectors.items;
  left : l.gate-index + deque_len l.collectors ≡ length l.fn.gates;
  started : deque_len l.collecting ≡ deque_len l.fn.collecting + l.gate-index;
  from_room : deque_capacity l.collectors ≡ deque_capacity l.fn.collectors;
  to_room : deque_capacity l.collecting ≡ deque_capacity l.fn.collecting;
}
