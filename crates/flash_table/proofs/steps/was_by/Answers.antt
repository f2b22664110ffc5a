use Rattle.std.proofs.Common.{rules}
use Rattle.flash_table.proofs.steps.was_by.Goals as goal

pub returns-else-found-eq-UNMAPPED-clause-empty : goal.returns-else-found-eq-UNMAPPED-clause-empty
returns-else-found-eq-UNMAPPED-clause-empty c = search rules
