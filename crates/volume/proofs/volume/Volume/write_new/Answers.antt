use Rattle.host.specs.Told.{was_found}
use Rattle.volume.proofs.Answered.{writes_new}
use Rattle.volume.proofs.volume.Volume.write_new.Goals as goal

pub returns-clause-correct : goal.returns-clause-correct
returns-clause-correct c =
    writes_new c.args.self.now.flash c.args.pass.now c.write_new.new.pass c.args.sector c.args.bytes.now
    (was_found c.write_new.result) c.requires.pass c.write_new.ensures.pass c.write_new.ensures.wrote
