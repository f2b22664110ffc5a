use Rattle.std.proofs.{Common.rules}
use Rattle.host.proofs.reading.read_gated.Goals as goal

pub returns-in_default-clause-answer : goal.returns-in_default-clause-answer
returns-in_default-clause-answer g c = search rules
