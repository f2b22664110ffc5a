use Rattle.std.proofs.Common.{rules}
use Rattle.geometry.proofs.victim.is_better.Goals as goal

pub returns-in-Some : goal.returns-in-Some
returns-in-Some c = search rules
