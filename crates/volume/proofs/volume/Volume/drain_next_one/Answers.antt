use Rattle.volume.proofs.ArrayLeft.{turned}
use Rattle.broom.specs.declared.turns.Choice.TheVariants as choice
use Rattle.volume.proofs.volume.Volume.drain_next_one.Goals as goal

pub returns-clause-array : goal.returns-clause-array
returns-clause-array g c =
    turned choice.Next _ c.args.broom.now c.drain_chosen.new.broom c.drain_chosen.result c.drain_chosen.ensures.drained_one
    c.drain_chosen.ensures.ready.rested.callers
