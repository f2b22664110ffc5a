use Rattle.std.proofs.{Common.◌≡◌, Common.length, Common.replicate, Common.true, Common.arith, lemmas.Grind.common_steps}
use Rattle.victims.{specs.Victims.are_above_zero, proofs.Eligible.all_above_zero}
use Rattle.victims.proofs.victims.Victims.new.Goals as goal

pub returns : goal.returns
returns c =
    let q = c.loop-block.queue in
    let marks : are_above_zero q.keys.items ≡ replicate (length c.args.kept.items) true =
    rw (← c.loop-block.invariant.same) (all_above_zero q.keys.items (λ b h. grind (arith, common_steps, c.loop-block.invariant.done b))) in
    rw marks
