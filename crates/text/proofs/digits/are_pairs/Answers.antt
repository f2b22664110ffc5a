use Rattle.text.proofs.Encodings.{pairs_told}
use Rattle.text.proofs.digits.are_pairs.Goals as goal

pub returns-then-digits-eq0 : goal.returns-then-digits-eq0
returns-then-digits-eq0 c = pairs_told c.args.digits.now c.digits_end.result c.if-digits-eq0.true c.digits_end.ensures
