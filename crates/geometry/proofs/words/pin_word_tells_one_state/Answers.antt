use Rattle.geometry.proofs.WordBits.{pin_same}
use Rattle.geometry.proofs.words.pin_word_tells_one_state.Goals as goal

pub returns : goal.returns
returns c = pin_same
