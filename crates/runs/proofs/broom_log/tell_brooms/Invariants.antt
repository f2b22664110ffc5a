use Rattle.std.proofs.Common.{◌≡◌}
use Rattle.streams.specs.Watched.{failures_of, inner_of}
use Rattle.answers.specs.Delivery.{IsUnderWay, waiting_of}
use Rattle.runs.specs.Logs.{brooms_before}
use Rattle.runs.proofs.broom_log.tell_brooms.Given as goal

abbrev pub invariant-loop-k : goal.invariant-loop-k
invariant-loop-k g l =
    (failures_of l.file ≡ failures_of l.initial.file)
    × IsUnderWay (g.V.Write.contents (inner_of l.initial.file)) (g.V.Write.contents (inner_of l.file)) (waiting_of l.lines) (brooms_before l.brooms l.k)
