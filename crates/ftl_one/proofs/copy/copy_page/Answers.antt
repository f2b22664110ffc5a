use Rattle.std.proofs.{Common.arith, lemmas.Grind.common_steps}
use Rattle.ftl_one.proofs.copy.copy_page.Goals as goal

pub returns-then-one_lun-clause-copybacks : goal.returns-then-one_lun-clause-copybacks
returns-then-one_lun-clause-copybacks c = grind (arith, common_steps)
