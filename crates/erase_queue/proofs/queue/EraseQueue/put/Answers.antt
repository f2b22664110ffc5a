use Rattle.std.proofs.Common.{rules}
use Rattle.erase_queue.proofs.queue.EraseQueue.put.Goals as goal

pub returns-else-not-stands-clause-put : goal.returns-else-not-stands-clause-put
returns-else-not-stands-clause-put g c = search rules
