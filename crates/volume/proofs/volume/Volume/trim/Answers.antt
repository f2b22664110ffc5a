use Rattle.volume.proofs.Answered.{trimmed}
use Rattle.volume.proofs.volume.Volume.trim.Goals as goal

pub returns-clause-correct : goal.returns-clause-correct
returns-clause-correct c =
    λ t role. trimmed c.args.self.now.flash c.args.pass.now c.trim.new.pass t c.args.sector c.trim.result c.requires.pass role (c.trim.ensures.called t role)
