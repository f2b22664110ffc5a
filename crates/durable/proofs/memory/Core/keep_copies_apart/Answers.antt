use Rattle.durable.proofs.Same.{same_counts}
use Rattle.durable.proofs.memory.Core.keep_copies_apart.Goals as goal

pub returns : goal.returns
returns c = same_counts c.args.self.now c.keep_copies_apart.new.self c.keep_copies_apart.ensures _ _ _ _ _ _ _ _ _ _
