use Rattle.std.proofs.Common.{rules}
use Rattle.flash_table.proofs.pins.finds_intact.Goals as goal

pub returns-then-state-generation : goal.returns-then-state-generation
returns-then-state-generation c = search rules
