use Rattle.std.proofs.Common.{rules}
use Rattle.broom.proofs.handing.hand_on.Goals as goal

pub returns-then-not-put-clause-handed : goal.returns-then-not-put-clause-handed
returns-then-not-put-clause-handed g c = search rules
