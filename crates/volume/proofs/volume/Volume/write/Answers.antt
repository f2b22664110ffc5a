use Rattle.volume.proofs.Answered.{writes}
use Rattle.volume.proofs.volume.Volume.write.Goals as goal

pub returns-clause-correct : goal.returns-clause-correct
returns-clause-correct c =
    writes c.args.self.now.flash c.args.pass.now c.write.new.pass c.args.sector c.args.bytes.now c.write.result c.requires.pass c.write.ensures.pass
    c.write.ensures.wrote
