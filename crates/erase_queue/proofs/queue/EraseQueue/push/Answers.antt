use Rattle.std.proofs.Common.{arith}
use Rattle.erase_queue.proofs.Course.{puts, learns}
use Rattle.erase_queue.proofs.queue.EraseQueue.push.Goals as goal

pub push_as-pushed-requires-clause-rule : goal.push_as-pushed-requires-clause-rule
push_as-pushed-requires-clause-rule g c =
    let of = c.requires.pass in
    let low = c.requires.block in
    let limit = of.limit in
    (puts _ _ _ _ of.role (omega arith), learns _ _ of.role)
