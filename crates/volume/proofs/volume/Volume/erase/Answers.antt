use Rattle.volume.proofs.ArrayLeft.{erased}
use Rattle.volume.proofs.volume.Volume.erase.Goals as goal

pub returns-clause-array : goal.returns-clause-array
returns-clause-array g c = erased c.args.broom.now c.erase.new.broom c.args.block c.erase.result c.erase.ensures.erased c.erase.ensures.ready.rested.callers
