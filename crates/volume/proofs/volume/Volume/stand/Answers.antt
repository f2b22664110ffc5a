use Rattle.std.proofs.{Common.arith, lemmas.Grind.common_steps}
use Rattle.volume.proofs.volume.Volume.stand.Goals as goal

pub returns-clause-stood : goal.returns-clause-stood
returns-clause-stood c = grind (arith, common_steps)
