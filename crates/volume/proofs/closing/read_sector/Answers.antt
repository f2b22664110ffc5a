use Rattle.std.proofs.{Common.arith, lemmas.Grind.common_steps}
use Rattle.flash_table.specs.Flash.{view_of}
use Rattle.volume.proofs.Looks.{looked-refl}
use Rattle.volume.proofs.closing.read_sector.Goals as goal

pub returns-in_err-page-clause-looked : goal.returns-in_err-page-clause-looked
returns-in_err-page-clause-looked c = looked-refl (view_of c.args.pass.now)

pub returns-in-Data-clause-value : goal.returns-in-Data-clause-value
returns-in-Data-clause-value c = grind (arith, common_steps)
