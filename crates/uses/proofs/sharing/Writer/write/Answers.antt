use Rattle.flash_table.specs.Flash.{view_of}
use Rattle.uses.proofs.Meetings.{stored}
use Rattle.uses.proofs.sharing.Writer.write.Goals as goal

pub returns-clause-stored : goal.returns-clause-stored
returns-clause-stored c =
    stored c.write.result c.is_ok.result c.args.self.now.sector c.args.self.now.value.now (view_of c.args.self.now.pass) (view_of c.write.new.pass)
    c.is_ok.ensures.value c.write.ensures.wrote c.write.ensures.refused
