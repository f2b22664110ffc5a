use Rattle.std.proofs.{Common.arith, lemmas.Grind.common_steps}
use Rattle.ftl_one.proofs.roles.hand_over.Goals as goal

pub returns : goal.returns
returns c = grind (arith, common_steps)
