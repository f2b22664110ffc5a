use Rattle.std.proofs.Common.{refl}
use Rattle.ftl_one.proofs.Choosing.{IsLeast-more}
use Rattle.ftl_one.proofs.fewest.least_of.Goals as goal

pub loop-i-preserved : goal.loop-i-preserved
loop-i-preserved c = IsLeast-more _ _ _ _ _ c.loop-i.invariant refl c.min-least.ensures
