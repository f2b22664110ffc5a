use Rattle.std.proofs.Common.{[], ◌∷◌, None, List, refl, subst}
use Rattle.durable.specs.Updates.{Update}
use Rattle.kept_reads.specs.Sessions.{MakesBy}
use Rattle.kept_reads.proofs.laws.runs.Goals as goal

pub returns-clause-event : goal.returns-clause-event
returns-clause-event c event t new made run =
    (run.0, run.1, run.3.0, run.4, subst (λ (before : List Update). MakesBy event before t new made) run.3.1 run.5)

pub returns-clause-kept : goal.returns-clause-kept
returns-clause-kept c = (((2, None) ∷ [], refl), refl, tt)
