use Rattle.std.proofs.Common.{refl, arith}
use Rattle.durable.proofs.layer.laws.open_blocks.Goals as goal

pub returns-clause-apart : goal.returns-clause-apart
returns-clause-apart c apart = apart (record { block = 1; page = 0 }) (record { block = 1; page = 2 }) refl refl refl

pub returns-clause-programmed : goal.returns-clause-programmed
returns-clause-programmed c old new used hosts = (used.0 (record { block = 1; page = 0 }) hosts).1

pub returns-clause-enough : goal.returns-clause-enough
returns-clause-enough c enough = omega (arith, enough.2 refl refl)
