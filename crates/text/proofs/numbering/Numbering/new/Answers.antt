use Rattle.std.proofs.{Common.sym, Common.arith, lemmas.Fmt.decimal_digit}
use Rattle.text.proofs.numbering.Numbering.new.Goals as goal

pub invariant_of-result-clause-digits_of : goal.invariant_of-result-clause-digits_of
invariant_of-result-clause-digits_of c = sym (decimal_digit 0 (omega arith))
