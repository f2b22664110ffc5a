use Rattle.std.proofs.Common.{◌≡◌, ◌-◌, ◌≤◌, drop, length}
use Rattle.streams.specs.Watched.{failures_of, inner_of}
use Rattle.answers.specs.Delivery.{IsUnderWay}
use Rattle.answers.proofs.delivery.send_some.Given as goal

abbrev pub invariant-loop-sent : goal.invariant-loop-sent
invariant-loop-sent g l = record {
  within : l.sent ≤ length l.bytes;
  moved : IsUnderWay (g.W.Write.contents (inner_of l.initial.writer)) (g.W.Write.contents (inner_of l.writer)) (drop l.sent l.bytes) l.bytes;
  unfailed : failures_of l.writer ≡ failures_of l.initial.writer;
}

abbrev pub decreases-loop-sent : goal.decreases-loop-sent
decreases-loop-sent g l = length l.bytes - l.sent
