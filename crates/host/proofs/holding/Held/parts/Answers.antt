use Rattle.std.proofs.Common.{rules}
use Rattle.host.proofs.holding.Held.parts.Goals as goal

pub returns-clause-generation : goal.returns-clause-generation
returns-clause-generation c = search rules
