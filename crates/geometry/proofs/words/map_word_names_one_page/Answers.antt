use Rattle.geometry.proofs.WordBits.{map_same}
use Rattle.geometry.proofs.words.map_word_names_one_page.Goals as goal

pub returns : goal.returns
returns c = map_same
