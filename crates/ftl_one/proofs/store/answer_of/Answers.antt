use Rattle.std.proofs.{Common.arith, lemmas.Grind.common_steps}
use Rattle.ftl_one.proofs.store.answer_of.Goals as goal

pub returns-in-None : goal.returns-in-None
returns-in-None c = grind (arith, common_steps)
