use Rattle.volume.proofs.ArrayLeft.{dead_drained}
use Rattle.volume.proofs.volume.Volume.drain_dead.Goals as goal

pub returns-clause-array : goal.returns-clause-array
returns-clause-array g c =
    dead_drained c.args.broom.now c.drain_dead.new.broom c.drain_dead.result c.drain_dead.ensures.drained_dead c.drain_dead.ensures.ready.rested.callers
