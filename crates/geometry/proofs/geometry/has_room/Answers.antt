use Rattle.std.proofs.{Common.arith, lemmas.Grind.common_steps}
use Rattle.geometry.proofs.geometry.has_room.Goals as goal

pub returns-then-hosts-eq0 : goal.returns-then-hosts-eq0
returns-then-hosts-eq0 c = grind (arith, common_steps)
