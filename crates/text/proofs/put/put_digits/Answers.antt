use Rattle.std.proofs.Common.{List, ℕ, ◌+◌, subst}
use Rattle.text.{specs.Putting.PutsText, proofs.Numbers.decimal_parts, proofs.Places.Puts-then}
use Rattle.text.proofs.put.put_digits.Goals as goal

pub returns-then-number-lt100000000-clause-placed : goal.returns-then-number-lt100000000-clause-placed
returns-then-number-lt100000000-clause-placed c =
    subst (λ (text : List ℕ). PutsText c.args.buffer.now c.put_four.new.buffer c.args.at text (c.put_first-middle.result + 4))
    (decimal_parts c.args.number c.if-number-lt10000.false c.ranges.number.fits)
    (Puts-then c.put_first-middle.ensures.placed c.put_four.ensures)
