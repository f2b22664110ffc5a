use Rattle.std.proofs.Common.{◌≡◌, ℕ, length, subst, arith}
use Rattle.geometry.proofs.Choosing.{BestBelow, greedy_of-all}
use Rattle.geometry.proofs.victim.greedy.Goals as goal

pub returns-clause-value : goal.returns-clause-value
returns-clause-value c =
    let all : c.loop-i.i ≡ length c.args.counts.now = omega arith in
    greedy_of-all c.args.counts.now c.args.closed.now c.loop-i.best c.requires
    (subst (λ (n : ℕ). BestBelow c.args.counts.now c.args.closed.now n c.loop-i.best) all c.loop-i.invariant)
