use Rattle.broom.proofs.StateCounts.{LoadedBelow}
use Rattle.broom.proofs.state.count_blocks.Given as goal

abbrev pub invariant-loop-block : goal.invariant-loop-block
invariant-loop-block l = LoadedBelow l.flash l.fn.broom l.block l.broom l.counts
