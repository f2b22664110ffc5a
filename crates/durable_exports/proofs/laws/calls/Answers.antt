use Rattle.durable_exports.proofs.laws.calls.Goals as goal

pub returns-clause-unread : goal.returns-clause-unread
returns-clause-unread c device m f is = is.3 f

pub returns-clause-no_loss : goal.returns-clause-no_loss
returns-clause-no_loss c f m l acked begun mounted noted readable unharmed = (mounted.8 f acked begun noted readable unharmed).1
