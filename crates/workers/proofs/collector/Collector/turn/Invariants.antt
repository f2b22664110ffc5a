use Rattle.workers.proofs.BroomTurns.{TurnSoFar}
use Rattle.workers.proofs.collector.Collector.turn.Given as goal

abbrev pub invariant-loop-made : goal.invariant-loop-made
invariant-loop-made g l = TurnSoFar l.fn.self l._made l.drain l.gained l.self
