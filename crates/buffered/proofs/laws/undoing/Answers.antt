use Rattle.std.proofs.Common.{◌∷◌}
use Rattle.buffered.specs.Buffered.{Undoes, kept_in}
use Rattle.buffered.proofs.Kept.{none_undone}
use Rattle.buffered.proofs.laws.undoing.Goals as goal

pub returns-clause-synced : goal.returns-clause-synced
returns-clause-synced c steps moments undone cut run = none_undone undone run.2 run.4.0 run.1 (kept_in steps) cut run.4.2 run.5 run.6

pub returns-clause-once : goal.returns-clause-once
returns-clause-once c steps moments m n cut other run =
    none_undone n run.2 run.4.0 run.1 (kept_in (Undoes m other ∷ steps)) cut run.4.3 run.5 run.6
