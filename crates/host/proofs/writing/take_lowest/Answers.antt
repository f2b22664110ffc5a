use Rattle.flash_table.specs.Flash.{view_of}
use Rattle.host.proofs.WritingSteps.{tried_more}
use Rattle.host.proofs.writing.take_lowest.Goals as goal

pub loop-block-preserved : goal.loop-block-preserved
loop-block-preserved c = tried_more c.args.flash.now
    (view_of c.args.pass.now) c.loop-block.block c.loop-block.pass c.take.new.pass c.loop-block.invariant c.if-take.ensures.taken c.if-take.ensures.pass
