use Rattle.std.proofs.Common.{refl, sym, ◌∙◌}
use Rattle.durable.specs.Updates.{sole}
use Rattle.durable.proofs.Cells.{erased_holds_none}
use Rattle.durable.proofs.Promises.{held_before}
use Rattle.durable.proofs.laws.failures.Goals as goal

pub returns-clause-same : goal.returns-clause-same
returns-clause-same c f = record { to = λ b. b; from = λ b. b; inverse = λ b. refl; moved = λ b p. refl; within = λ b lt. lt }

pub returns-clause-grown : goal.returns-clause-grown
returns-clause-grown c f t v erased held anew = erased_holds_none (sole 7) 5 v (sym (erased (anew.from 0) 1) ∙ held_before f t 3 anew 0 1 (sole 7) 5 v held)
