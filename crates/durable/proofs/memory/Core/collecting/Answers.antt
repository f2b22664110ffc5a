use Rattle.durable.proofs.Collects.{free_beside_hosts}
use Rattle.durable.proofs.memory.Core.collecting.Goals as goal

pub spare_copy-requires-clause-free : goal.spare_copy-requires-clause-free
spare_copy-requires-clause-free c = free_beside_hosts c.args.self.now c.requires
