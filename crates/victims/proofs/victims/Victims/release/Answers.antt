use Rattle.std.proofs.{Common.◌-◌, Common.get_or, Common.arith, lemmas.Bool.Decides.nat_tests, lemmas.Grind.common_steps}
use Rattle.victims.proofs.Eligible.{are_above_zero_same}
use Rattle.victims.proofs.victims.Victims.release.Goals as goal
use Rattle.victims.proofs.victims.Victims.release.Goals.{then-index-ne-EXCLUDED, else-index-ne-EXCLUDED}

pub returns : goal.returns
returns c =
    elim c.if-index-ne-EXCLUDED.branch [
      | then-index-ne-EXCLUDED w ↦
          let keys = c.self.inside.queue.keys.items in
          let same = are_above_zero_same keys c.args.block (get_or keys c.args.block 0 - 1) (grind (arith, common_steps, nat_tests)) in
          rw (w.self-inside-is, ← c.self.view_is, w.lower.ensures.keys, same) (grind (arith, common_steps))
      | else-index-ne-EXCLUDED w ↦ rw (w.self-inside-is, ← c.self.view_is) (grind (arith, common_steps))
    ]
