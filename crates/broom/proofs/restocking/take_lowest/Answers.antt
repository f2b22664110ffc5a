use Rattle.flash_table.specs.Flash.{broom_view, own_blocks}
use Rattle.broom.proofs.Sparing.{tried_more}
use Rattle.broom.proofs.restocking.take_lowest.Goals as goal

pub loop-block-preserved : goal.loop-block-preserved
loop-block-preserved c =
    let told = c.if-take_spare.ensures in
    tried_more c.args.flash.now (broom_view c.args.seat.now) (own_blocks c.args.seat.now) c.loop-block.block c.loop-block.seat c.take_spare.new.broom
    c.loop-block.invariant told.spare told.broom
