use Rattle.std.proofs.Common.{rules}
use Rattle.erase_queue.proofs.queue.EraseQueue.take.Goals as goal

pub returns-then-is_none-clause-taken : goal.returns-then-is_none-clause-taken
returns-then-is_none-clause-taken g c = search rules

pub returns-else-is_none-clause-taken : goal.returns-else-is_none-clause-taken
returns-else-is_none-clause-taken g c = search rules
