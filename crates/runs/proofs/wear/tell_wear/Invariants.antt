use Rattle.std.proofs.Common.{◌≡◌}
use Rattle.ftl_one.specs.OneFtl.{stock_of}
use Rattle.streams.specs.Watched.{failures_of, inner_of}
use Rattle.answers.specs.Delivery.{IsUnderWay, waiting_of}
use Rattle.runs.specs.Logs.{wear_before}
use Rattle.runs.proofs.wear.tell_wear.Given as goal

abbrev pub invariant-loop-block : goal.invariant-loop-block
invariant-loop-block g l =
    (failures_of l.wear ≡ failures_of l.initial.wear)
    × IsUnderWay (g.V.Write.contents (inner_of l.initial.wear)) (g.V.Write.contents (inner_of l.wear)) (waiting_of l.desk.lines)
    (wear_before (stock_of l.ftl) l.block)
