use Rattle.std.proofs.Common.{◌+◌, ◌≤◌, ◌++◌, List, length, vec_len, vec_capacity}
use Rattle.workers.specs.{declared.collector.collector_end.CollectorEnd.CollectorEnd, Served.HaveFolded}
use Rattle.workers.proofs.team.leaving.fold_collectors.Given as goal

abbrev pub invariant-loop-collector : goal.invariant-loop-collector
invariant-loop-collector g l = record {
  folded : (rest : List CollectorEnd) → HaveFolded l.collectors.items rest → HaveFolded l.fn.collectors.items (l.ends.items ++ rest);
  room : vec_len l.ends + length l.collectors.items ≤ vec_capacity l.ends;
}

abbrev pub decreases-loop-collector : goal.decreases-loop-collector
decreases-loop-collector g l = length l.collectors.items
