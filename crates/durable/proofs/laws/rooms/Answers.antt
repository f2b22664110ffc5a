use Rattle.std.proofs.Common.{inl, refl, arith}
use Rattle.durable.proofs.laws.rooms.Goals as goal

pub returns-clause-used : goal.returns-clause-used
returns-clause-used c free = free 1 (record { block = 2; page = 0 }) (omega arith) refl refl

pub returns-clause-hosts_alone : goal.returns-clause-hosts_alone
returns-clause-hosts_alone c collects =
    collects.0 (λ e. cc e) (λ b lt closed. absurd (closed (record { block = 0; page = 0 }) (inl refl) (omega (arith, lt))))
