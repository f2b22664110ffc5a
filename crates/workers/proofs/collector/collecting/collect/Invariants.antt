use Rattle.workers.specs.Collecting.{HasCollected}
use Rattle.workers.proofs.collector.collecting.collect.Given as goal

abbrev pub invariant-loop : goal.invariant-loop
invariant-loop g l = HasCollected l.fn.collector l.collector
