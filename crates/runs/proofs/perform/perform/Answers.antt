use Rattle.std.proofs.{Common.arith, lemmas.Grind.common_steps}
use Rattle.runs.proofs.perform.perform.Goals as goal

pub returns-in-Ok-clause-answer : goal.returns-in-Ok-clause-answer
returns-in-Ok-clause-answer c = grind (arith, common_steps)
