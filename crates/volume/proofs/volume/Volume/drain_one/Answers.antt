use Rattle.volume.proofs.ArrayLeft.{turned}
use Rattle.broom.specs.declared.turns.Choice.TheVariants as choice
use Rattle.volume.proofs.volume.Volume.drain_one.Goals as goal

pub returns-clause-array : goal.returns-clause-array
returns-clause-array g c =
    turned choice.Survey _ c.args.broom.now c.drain_one.new.broom c.drain_one.result c.drain_one.ensures.drained_one c.drain_one.ensures.ready.rested.callers
