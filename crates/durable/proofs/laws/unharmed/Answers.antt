use Rattle.std.proofs.Common.{inl, ⊎_elim, ap, arith}
use Rattle.durable.specs.Losses.{version_count}
use Rattle.durable.proofs.Opened.{some_not_none}
use Rattle.durable.proofs.laws.unharmed.Goals as goal

pub returns-clause-alone : goal.returns-clause-alone
returns-clause-alone c f v newest only doubled =
    let there = doubled 7 1 v (omega arith) newest in
    there.3 (only there.0 there.1 there.2 there.5)

pub returns-clause-mounted : goal.returns-clause-mounted
returns-clause-mounted c f layer acked begun from is unharmed = from.4 f acked begun from.1 is unharmed

pub returns-clause-done : goal.returns-clause-done
returns-clause-done c events t new u runs = (runs.0, runs.1, runs.2, runs.3.3, runs.3.4)

pub returns-clause-failed : goal.returns-clause-failed
returns-clause-failed c events t new u runs = (runs.0, runs.1, runs.2, runs.3.6, runs.3.4, runs.3.7)

pub returns-clause-inside : goal.returns-clause-inside
returns-clause-inside c events t new u runs = (runs.0, runs.1, runs.2, runs.3.4, runs.3.2)

pub returns-clause-idle : goal.returns-clause-idle
returns-clause-idle c events t new runs = (runs.0, runs.1, runs.2, runs.3.3, runs.3.1)

pub returns-clause-mapped : goal.returns-clause-mapped
returns-clause-mapped c f layer keeps lt entry = keeps.mapped 7 (record { block = 1; page = 1 }) lt entry

pub returns-clause-full : goal.returns-clause-full
returns-clause-full c f layer keeps is torn =
    let one = keeps.full (record { block = 1; page = 2 }) (inl is) 1 (omega arith) in omega (arith, one, ap version_count torn)

pub returns-clause-spared : goal.returns-clause-spared
returns-clause-spared c f layer keeps none = ⊎_elim
    (λ free. (free.0, free.1, free.3))
    (λ copies. absurd (some_not_none layer.next_pages.copies copies.0 copies.2 none))
    keeps.spared
