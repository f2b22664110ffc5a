use Rattle.volume.proofs.ArrayLeft.{loaded}
use Rattle.volume.proofs.volume.Volume.load_state.Goals as goal

pub returns-clause-array : goal.returns-clause-array
returns-clause-array c =
    loaded c.args.broom.now c.load_state.new.broom c.args.block c.load_state.result c.load_state.ensures.loaded c.load_state.ensures.ready.rested.callers
