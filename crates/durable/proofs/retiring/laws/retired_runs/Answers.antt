use Rattle.durable.proofs.retiring.laws.retired_runs.Goals as goal

pub returns-clause-retired : goal.returns-clause-retired
returns-clause-retired c events t new u runs = (runs.0, runs.1, runs.3.0, runs.3.1, runs.2, runs.3.2, runs.3.3, runs.3.4)

pub returns-clause-on_reserve : goal.returns-clause-on_reserve
returns-clause-on_reserve c events t new u runs = (runs.0, runs.1, runs.3.1, runs.2, runs.3.0, runs.3.2, runs.3.4)

pub returns-clause-whole : goal.returns-clause-whole
returns-clause-whole c events t new u runs = (runs.0, runs.1, runs.3.0, runs.3.1, runs.2, runs.3.5, runs.3.6)
