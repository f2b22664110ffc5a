use Rattle.std.proofs.Common.{◌∙◌, sym}
use Rattle.durable_exports.proofs.mounts.note.Goals as goal

pub returns-in-Err-clause-accepts : goal.returns-in-Err-clause-accepts
returns-in-Err-clause-accepts c f written stamped _ = absurd (cc (sym (c.note.ensures.accepts f written stamped) ∙ c.in-Err.is))
