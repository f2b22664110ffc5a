use Rattle.ftl_one.specs.Collections.{IsLeast}
use Rattle.ftl_one.proofs.fewest.least_of.Given as goal

abbrev pub invariant-loop-i : goal.invariant-loop-i
invariant-loop-i l = IsLeast l.counts l.i l.least
