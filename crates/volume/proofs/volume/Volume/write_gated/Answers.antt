use Rattle.volume.proofs.Answered.{writes}
use Rattle.volume.proofs.volume.Volume.write_gated.Goals as goal

pub returns-clause-correct : goal.returns-clause-correct
returns-clause-correct g c =
    writes c.args.self.now.flash c.args.pass.now c.write_gated.new.pass c.args.sector c.args.bytes.now c.write_gated.result c.requires.pass
    c.write_gated.ensures.pass c.write_gated.ensures.wrote
