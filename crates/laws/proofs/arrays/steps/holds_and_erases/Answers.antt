use Rattle.std.proofs.Common.{◌<◌, refl, arith}
use Rattle.laws.specs.Steps.{erase_in}
use Rattle.laws.proofs.arrays.steps.holds_and_erases.Goals as goal

pub returns-clause-same : goal.returns-clause-same
returns-clause-same c m h = let below : m.generation < m.generation = h 0 (erase_in m m.generation) refl refl in omega (arith, below)
