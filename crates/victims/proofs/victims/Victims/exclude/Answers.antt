use Rattle.victims.proofs.Eligible.{are_above_zero-set_zero}
use Rattle.victims.proofs.victims.Victims.exclude.Goals as goal

pub returns : goal.returns
returns c = rw (← c.self.view_is, c.lower_to.ensures.keys, are_above_zero-set_zero)
