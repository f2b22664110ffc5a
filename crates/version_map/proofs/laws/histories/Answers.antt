use Rattle.std.proofs.Common.{refl, [], ◌∷◌}
use Rattle.version_map.proofs.laws.histories.Goals as goal

pub returns-clause-longer : goal.returns-clause-longer
returns-clause-longer c = ((2, 9) ∷ [], refl)
