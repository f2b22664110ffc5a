use Rattle.std.proofs.Common.{rules}
use Rattle.flash_table.proofs.steps.generation_if_free.Goals as goal

pub returns-then-eq-clause-some : goal.returns-then-eq-clause-some
returns-then-eq-clause-some c = search rules
