use Rattle.std.proofs.{Common.arith, lemmas.Grind.common_steps}
use Rattle.flash_table.proofs.{Permissions.of_pass, PassSteps.look_here}
use Rattle.flash_table.proofs.flash.Flash.look.Goals as goal

pub load-found-requires : goal.load-found-requires
load-found-requires c = look_here (of_pass c.requires.pass) c.args.sector c.requires.pass.role c.requires.unpinned c.requires.sector

pub returns-clause-looked : goal.returns-clause-looked
returns-clause-looked c = grind (arith, common_steps)
