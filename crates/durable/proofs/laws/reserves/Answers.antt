use Rattle.std.proofs.Common.{◌+◌, ℕ, subst}
use Rattle.durable.specs.Failures.{IsSwapped}
use Rattle.durable.specs.Runs.{failures_in}
use Rattle.durable.proofs.laws.reserves.Goals as goal

pub returns-clause-replaced : goal.returns-clause-replaced
returns-clause-replaced c events t new u runs =
    let swap = subst (λ (b : ℕ). IsSwapped runs.3.1 t b (runs.1.blocks + failures_in events)) runs.3.5 runs.3.6 in
    (runs.0, runs.3.1, runs.1, runs.2, runs.3.4, swap, runs.3.7, runs.3.8)

pub returns-clause-safe : goal.returns-clause-safe
returns-clause-safe c events t new u runs = (runs.0, runs.1, runs.3.0, runs.3.1.0)

pub returns-clause-safe_cut : goal.returns-clause-safe_cut
returns-clause-safe_cut c events t new u runs = (runs.0, runs.1, runs.3.0, runs.3.1.1)

pub returns-clause-idle : goal.returns-clause-idle
returns-clause-idle c events t new runs = (runs.0, runs.1, runs.2, runs.3.0)
