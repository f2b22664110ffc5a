use Rattle.std.{proofs.Common.ℕ, proofs.Common.Option, proofs.Common.None, proofs.Common.Some, proofs.Common.arith, specs.Prelude.IfNone}
use Rattle.victims.proofs.Eligible.{eligible_above_zero}
use Rattle.victims.proofs.victims.Victims.victim.Goals as goal

-- if there is no value, what follows from the fact holds too
none_more : {P Q : Type 0} (found : Option ℕ) → (P → Q) → IfNone found P → IfNone found Q
none_more None more fact = more fact
none_more (Some b) more fact = tt

pub returns-clause-none : goal.returns-clause-none
returns-clause-none c =
    rw (← c.self.view_is) (none_more c.least.result (λ none b is.
    let q = c.self.inside in
    let above = eligible_above_zero q.pages q.kept.items q.erases.items q.queue.keys.items b c.self.invariant.keys is in
    absurd (omega (arith, above.1, none b above.0))) c.least.ensures.none)
