use Rattle.std.proofs.Common.{rules}
use Rattle.host.proofs.writing.write.Goals as goal

pub returns-clause-refused : goal.returns-clause-refused
returns-clause-refused c = search rules
