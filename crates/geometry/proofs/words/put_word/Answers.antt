use Rattle.std.proofs.Common.{◌+◌, ◌*◌, ◌-◌, arith}
use Rattle.geometry.proofs.WordBits.{word_kept}
use Rattle.geometry.proofs.words.put_word.Goals as goal

pub returns-clause-others : goal.returns-clause-others
returns-clause-others c k other _ =
    word_kept c.args.page.now c.copy_from_slice.new.self c.args.i k (8 * c.args.i + 8 - 8 * c.args.i) (omega arith) (omega arith) other (omega arith)
