use Rattle.geometry.specs.History.{Trim}
use Rattle.flash_rule.proofs.Still.{pass_of}
use Rattle.flash_table.specs.Flash.{view_of}
use Rattle.host.proofs.WritingCalls.{ready_called}
use Rattle.host.proofs.writing.trim.Goals as goal

pub returns-clause-pass : goal.returns-clause-pass
returns-clause-pass c =
    let t = pass_of (view_of c.args.pass.now).role c.requires.pass.rested.pass.role in
    ready_called c.args.flash.now c.args.pass.now c.place_trim.new.pass
    (Trim t.0 c.args.sector) c.args.sector c.place_trim.result c.requires.pass c.place_trim.ensures.pass c.place_trim.ensures.opened
    (c.place_trim.ensures.called t.0 t.1)
