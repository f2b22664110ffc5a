use Rattle.std.proofs.Common.{refl}
use Rattle.laws.proofs.PlayedLines.{d}
use Rattle.laws.proofs.traces.reports.texts_of_a_stock.Goals as goal

pub returns-clause-totals : goal.returns-clause-totals
returns-clause-totals c = rw (d 1 refl, d 2 refl, d 3 refl) refl

pub returns-clause-block : goal.returns-clause-block
returns-clause-block c = rw (d 0 refl, d 1 refl) refl

pub returns-clause-wear : goal.returns-clause-wear
returns-clause-wear c g blocks = rw (blocks, d 0 refl, d 1 refl, d 2 refl) refl
