use Rattle.std.proofs.Common.{refl}
use Rattle.ftl_one.specs.OneFtl.{stock_of}
use Rattle.ftl_one.proofs.one_ftl.OneFtl.counts.Goals as goal

pub returns-clause-copies : goal.returns-clause-copies
unfolding stock_of
returns-clause-copies c = refl
