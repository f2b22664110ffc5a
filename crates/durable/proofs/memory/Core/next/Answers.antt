use Rattle.durable.proofs.Promises.{is_safe, survives_cut, survives_idle_cut}
use Rattle.durable.proofs.Whole.{cuts_unharmed, cuts_idle_unharmed}
use Rattle.durable.proofs.memory.Core.next.Goals as goal

pub returns-clause-safe : goal.returns-clause-safe
returns-clause-safe c = is_safe c.args.self.now c.choose.result c.choose.ensures.next

pub returns-clause-cut : goal.returns-clause-cut
returns-clause-cut c = survives_cut c.args.self.now c.args.extent c.choose.result c.requires c.choose.ensures.next

pub returns-clause-idle : goal.returns-clause-idle
returns-clause-idle c = survives_idle_cut c.args.self.now

pub returns-clause-unharmed : goal.returns-clause-unharmed
returns-clause-unharmed c = cuts_unharmed c.args.self.now c.args.extent c.choose.result c.choose.ensures.next

pub returns-clause-idle_unharmed : goal.returns-clause-idle_unharmed
returns-clause-idle_unharmed c = cuts_idle_unharmed c.args.self.now
