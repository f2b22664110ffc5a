use Rattle.std.proofs.Common.{◌≡◌, ◌+◌, ◌-◌, ◌*◌, arith, subst, sym, ◌∙◌}
use Rattle.trace.proofs.UsualLines.{ten_to, IsNumberSoFar, more_so_far, none_so_far, number_ends}
use Rattle.trace.proofs.usual.usual_number.Goals as goal

pub loop-i-init : goal.loop-i-init
loop-i-init c =
    let there : c.args.start ≡ c.args.start + 0 = omega arith in
    subst (λ at. IsNumberSoFar c.args.text.now c.args.start at 0) there (none_so_far c.args.text.now c.args.start c.requires)

pub returns-then-not-is_ascii_digit : goal.returns-then-not-is_ascii_digit
returns-then-not-is_ascii_digit c =
    number_ends c.args.text.now c.args.start (c.args.start + c.loop-i.i) c.loop-i.value c.args.bound c.loop-i.invariant (omega arith) (omega arith)
    (omega arith) c.if-byte-ne44.false (omega arith)

pub overflow_mul-value : goal.overflow_mul-value
overflow_mul-value c = let few = ten_to (c.args.start + c.loop-i.i - c.args.start) (omega arith) in omega (arith, few, c.loop-i.invariant.small)

pub overflow_add-value : goal.overflow_add-value
overflow_add-value c = let few = ten_to (c.args.start + c.loop-i.i - c.args.start) (omega arith) in omega (arith, few, c.loop-i.invariant.small)

pub loop-i-preserved : goal.loop-i-preserved
loop-i-preserved c =
    let there : c.args.start + c.loop-i.i + 1 ≡ c.args.start + (c.loop-i.i + 1) = omega arith in
    subst (λ at. IsNumberSoFar c.args.text.now c.args.start at (10 * c.loop-i.value + c.from.result)) there
    (more_so_far c.args.text.now c.args.start (c.args.start + c.loop-i.i) c.loop-i.value _ c.loop-i.invariant (omega arith)
    (sym c.is_ascii_digit.ensures.value ∙ c.if-not-is_ascii_digit.false) (omega arith))
