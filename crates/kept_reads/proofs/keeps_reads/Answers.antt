use Rattle.kept_reads.proofs.Kept.{goes_on, keeps, reads_again, runs_beside, sector_array}
use Rattle.kept_reads.proofs.keeps_reads.Goals as goal

pub returns-clause-keeps : goal.returns-clause-keeps
returns-clause-keeps c = keeps

pub returns-clause-goes_on : goal.returns-clause-goes_on
returns-clause-goes_on c = goes_on

pub returns-clause-runs : goal.returns-clause-runs
returns-clause-runs c = runs_beside

pub returns-clause-array : goal.returns-clause-array
returns-clause-array c = sector_array

pub returns-clause-again : goal.returns-clause-again
returns-clause-again c = reads_again
