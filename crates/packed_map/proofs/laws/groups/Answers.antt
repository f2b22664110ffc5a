use Rattle.packed_map.proofs.Groups.{first_kept}
use Rattle.packed_map.proofs.laws.groups.Goals as goal

pub returns-clause-first : goal.returns-clause-first
returns-clause-first c = first_kept 3
