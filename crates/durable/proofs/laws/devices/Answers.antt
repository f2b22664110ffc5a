use Rattle.std.proofs.Common.{inl, inr, arith}
use Rattle.durable.proofs.laws.devices.Goals as goal

pub returns-clause-open : goal.returns-clause-open
returns-clause-open c next on opened = let lies = on (record { block = 3; page = 3 }) (inl opened) in omega (arith, lies.0)

pub returns-clause-beyond : goal.returns-clause-beyond
returns-clause-beyond c next on opened = let lies = on (record { block = 3; page = 3 }) (inr opened) in omega (arith, lies.0)

pub returns-clause-past : goal.returns-clause-past
returns-clause-past c next on opened = let lies = on (record { block = 2; page = 4 }) (inr opened) in omega (arith, lies.1)
