use Rattle.std.proofs.Common.{rules, refl}
use Rattle.durable.proofs.ranking.Counts.other_empty.Goals as goal

pub returns-then-is_closed : goal.returns-then-is_closed
returns-then-is_closed c = (search rules, search rules, c.if-is_closed.ensures.yes refl, search rules)
