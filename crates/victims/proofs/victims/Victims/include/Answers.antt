use Rattle.std.proofs.{Common.arith, lemmas.Grind.common_steps}
use Rattle.victims.proofs.Eligible.{are_above_zero-set_more}
use Rattle.victims.proofs.victims.Victims.include.Goals as goal

pub returns : goal.returns
returns c = rw (← c.self.view_is, c.raise_to.ensures.keys) (grind (
  arith,
  common_steps,
  are_above_zero-set_more c.self.inside.queue.keys.items c.args.block,
))
