use Rattle.geometry.specs.Words.{pin_word}
use Rattle.shared_acceptance.proofs.Rested.{rested_loaded}
use Rattle.shared_acceptance.proofs.models.words.pin_word.Goals as goal

pub returns : goal.returns
returns c = rested_loaded c.args.flash.now c.args.seat.now c.load_state.new.broom c.requires.seat c.load_state.ensures.broom
    c.load_state.ensures.blocks c.args.block (pin_word c.load_state.result) c.load_state.ensures.loaded
