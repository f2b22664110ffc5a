use Rattle.std.proofs.Common.{◌≡◌, ◌+◌, ◌++◌, List, deque_capacity, deque_len, map}
use Rattle.workers.specs.{declared.collector.Collector.Collector, Collecting.HaveCollected, Collecting.given_to}
use Rattle.workers.proofs.team.join_collectors.Given as goal

abbrev pub invariant-loop-next : goal.invariant-loop-next
invariant-loop-next g l = record {
  collected : deque_len l.fn.collectors ≡ 0 → (rest : List Collector) → HaveCollected (map given_to l.collecting.items) rest
      → HaveCollected (map given_to l.fn.collecting.items) (l.collectors.items ++ rest);
  joined : deque_len l.collectors + deque_len l.collecting ≡ deque_len l.fn.collectors + deque_len l.fn.collecting;
  from_room : deque_capacity l.collecting ≡ deque_capacity l.fn.collecting;
  to_room : deque_capacity l.collectors ≡ deque_capacity l.fn.collectors;
}

abbrev pub decreases-loop-next : goal.decreases-loop-next
decreases-loop-next g l = deque_len l.collecting
