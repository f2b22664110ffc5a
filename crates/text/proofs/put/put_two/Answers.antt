use Rattle.text.proofs.Numbers.{Puts-two}
use Rattle.text.proofs.put.put_two.Goals as goal

pub returns : goal.returns
returns c = Puts-two c.args.buffer.now c.args.at c.args.digits c.requires.0 c.requires.1
