use Rattle.durable.proofs.ranking.Counts.other_empty.Given as goal

abbrev pub invariant-loop-turn : goal.invariant-loop-turn
invariant-loop-turn l = Unit {0}
