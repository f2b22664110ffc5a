use Rattle.std.proofs.Common.{refl}
use Rattle.text.proofs.Places.{Puts-number}
use Rattle.answers.proofs.line.put_totals.Goals as goal

pub returns : goal.returns
returns c =
    let programs = Puts-number 44 refl c.put_short-first.ensures.placed c.put_number-second.ensures.placed in
    Puts-number 10 refl (Puts-number 44 refl programs c.put_number-third.ensures.placed) c.put_number.ensures.placed
