use Rattle.std.proofs.Common.{[], ◌∷◌, refl, Err}
use Rattle.trace.specs.declared.fault.TraceFaultKind.TheVariants as fault
use Rattle.laws.proofs.traces.deliveries.commands_and_faults_of_a_trace.Goals as goal

pub returns-clause-first : goal.returns-clause-first
returns-clause-first c d = record { before = d ∷ []; after = Err fault.Op ∷ []; order = refl; line = refl }
