use Rattle.std.proofs.Common.{◌∙◌}
use Rattle.victims.proofs.Eligible.{count_of_ones}
use Rattle.victims.proofs.victims.Victims.spares.Goals as goal

pub returns : goal.returns
returns c = rw (← c.self.view_is) (c.count.ensures ∙ count_of_ones c.self.inside.kept.items c.self.inside.queue.keys.items c.self.invariant.keys)
