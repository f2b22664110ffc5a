use Rattle.durable.proofs.Same.{same_counts}
use Rattle.durable.proofs.memory.Core.erased_before.Goals as goal

pub returns-then-block-self : goal.returns-then-block-self
returns-then-block-self c = same_counts c.args.self.now c.erased_before.new.self c.erased_before.ensures _ _ _ _ _ _ _ _ _ _
