use Rattle.geometry.proofs.Choosing.{BestBelow}
use Rattle.geometry.proofs.victim.greedy.Given as goal

abbrev pub invariant-loop-i : goal.invariant-loop-i
invariant-loop-i l = BestBelow l.counts l.closed l.i l.best
