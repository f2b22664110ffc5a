use Rattle.std.proofs.Common.{◌≡◌, ◌∙◌, ℕ, ◌+◌, ◌-◌, get_or, ap, arith}
use Rattle.ftl_one.proofs.fewest.stands_within.Goals as goal

pub returns : goal.returns
returns c = λ off k from to e.
    let sum : c.args.at + (k - c.args.at) ≡ k = omega (arith, from) in
    c.loop-i.invariant off (k - c.args.at) (omega (arith, from, to)) (ap (λ (i : ℕ). get_or c.args.counts.now i 0) sum ∙ e)
