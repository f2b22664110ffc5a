use Rattle.volume.proofs.ArrayLeft.{drained}
use Rattle.volume.proofs.volume.Volume.drain.Goals as goal

pub returns-clause-array : goal.returns-clause-array
returns-clause-array g c = drained c.args.broom.now c.drain.new.broom c.drain.result c.drain.ensures.drained c.drain.ensures.ready.rested.callers
