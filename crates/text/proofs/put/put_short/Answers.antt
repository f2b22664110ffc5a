use Rattle.std.proofs.Common.{◌≡◌, length, arith, rules}
use Rattle.text.proofs.Places.{Puts-less, Puts-store}
use Rattle.text.proofs.put.put_short.Goals as goal

pub returns-clause-placed : goal.returns-clause-placed
returns-clause-placed c =
    let bytes = c.args.text.now.bytes in
    let long : length bytes ≡ 16 = search rules in
    Puts-less c.args.text.now.len (omega arith) (omega arith) (Puts-store c.args.buffer.now bytes c.args.at 16 long c.requires.room)
