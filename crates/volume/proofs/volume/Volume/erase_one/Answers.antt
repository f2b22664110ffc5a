use Rattle.std.proofs.Common.{rules}
use Rattle.volume.proofs.ArrayLeft.{erased_one}
use Rattle.volume.proofs.volume.Volume.erase_one.Goals as goal

pub returns-clause-erased_one : goal.returns-clause-erased_one
returns-clause-erased_one g c = search rules

pub returns-clause-array : goal.returns-clause-array
returns-clause-array g c =
    erased_one _ c.args.broom.now c.erase_one.new.broom c.erase_one.result c.erase_one.ensures.erased_one c.erase_one.ensures.ready.rested.callers
