use Rattle.std.proofs.{Common.arith, Common.rules}
use Rattle.trace.{specs.Trace.number_below, proofs.UsualLines.ten_to}
use Rattle.trace.proofs.parsing.number_below.Goals as goal

pub overflow_mul-number : goal.overflow_mul-number
overflow_mul-number c = let few = ten_to c.loop-digit.digit-index (omega arith) in omega arith

pub overflow_add-number : goal.overflow_add-number
overflow_add-number c = let few = ten_to c.loop-digit.digit-index (omega arith) in omega arith

pub returns-then-is_empty-clause-value : goal.returns-then-is_empty-clause-value
unfolding number_below
returns-then-is_empty-clause-value c = search rules
