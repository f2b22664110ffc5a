use Rattle.std.proofs.Common.{◌≡◌, true, refl, arith}
use Rattle.trace.specs.declared.commands.Op.{Op}
use Rattle.trace.specs.declared.commands.Op.TheVariants as op
use Rattle.rounds.specs.Merging.{changes}
use Rattle.laws.specs.Rounds.{plain_line}
use Rattle.laws.proofs.traces.lines.rounds_of_a_trace.Goals as goal

others_change : (o : Op) → ¬ (o ≡ op.Read) → ¬ (o ≡ op.Meet) → changes o ≡ true
others_change op.Read no_read no_meet = absurd (no_read refl)
others_change op.Meet no_read no_meet = absurd (no_meet refl)
others_change _ _ _ = refl

pub returns-clause-changed : goal.returns-clause-changed
returns-clause-changed c o no_read no_meet disjoint =
    let same : 1 ≡ 0 = disjoint 1 (plain_line 0 op.Read 5) (omega arith) 0 (plain_line 0 op.Read 5) (omega arith) (others_change o no_read no_meet) refl in
    absurd (omega (arith, same))
