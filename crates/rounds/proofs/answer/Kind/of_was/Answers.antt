use Rattle.std.proofs.Common.{rules}
use Rattle.rounds.proofs.answer.Kind.of_was.Goals as goal

pub returns-in-Written : goal.returns-in-Written
returns-in-Written c = search rules
