use Rattle.volume.proofs.ArrayLeft.{next_drained}
use Rattle.volume.proofs.volume.Volume.drain_next.Goals as goal

pub returns-clause-array : goal.returns-clause-array
returns-clause-array g c =
    next_drained c.args.broom.now c.drain_next.new.broom c.drain_next.result c.drain_next.ensures.drained_next c.drain_next.ensures.ready.rested.callers
