use Rattle.buffered.proofs.Kept.{flushed, kept_mounts, kept_run}
use Rattle.buffered.proofs.keeps_flushed.Goals as goal

pub returns-clause-runs : goal.returns-clause-runs
returns-clause-runs c = kept_run

pub returns-clause-mounts : goal.returns-clause-mounts
returns-clause-mounts c = kept_mounts

pub returns-clause-flushed : goal.returns-clause-flushed
returns-clause-flushed c = flushed
