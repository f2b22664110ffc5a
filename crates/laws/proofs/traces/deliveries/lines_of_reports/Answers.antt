use Rattle.std.proofs.Common.{refl}
use Rattle.laws.proofs.PlayedLines.{d}
use Rattle.laws.proofs.traces.deliveries.lines_of_reports.Goals as goal

pub returns-clause-line : goal.returns-clause-line
returns-clause-line c = rw (d 2 refl, d 5 refl) refl

pub returns-clause-wear : goal.returns-clause-wear
returns-clause-wear c = (rw (d 1 refl, d 2 refl, d 3 refl) refl, rw (d 1 refl, d 2 refl, d 3 refl, d 0 refl) refl)

pub returns-clause-collection : goal.returns-clause-collection
returns-clause-collection c = (rw (d 1 refl, d 2 refl, d 3 refl, d 4 refl, d 5 refl) refl, rw (d 1 refl, d 2 refl, d 3 refl, d 4 refl, d 5 refl) refl)

pub returns-clause-logged : goal.returns-clause-logged
returns-clause-logged c = rw (d 1 refl, d 2 refl, d 3 refl, d 4 refl, d 5 refl) refl

pub returns-clause-broom : goal.returns-clause-broom
returns-clause-broom c = rw (d 1 refl, d 2 refl, d 3 refl, d 4 refl, d 5 refl, d 6 refl, d 7 refl, d 8 refl, d 9 refl, d 10 refl, d 11 refl) refl

pub returns-clause-fault : goal.returns-clause-fault
returns-clause-fault c = rw (d 7 refl) refl
