use Rattle.std.proofs.Common.{sym, ◌∙◌}
use Rattle.durable.proofs.Cells.{erased_holds_none}
use Rattle.durable.proofs.laws.runs.Goals as goal

pub returns-clause-between : goal.returns-clause-between
returns-clause-between c t new runs b p = (λ i. runs.3.0 i b p) ∙ runs.2.0 b p

pub returns-clause-failed_erase : goal.returns-clause-failed_erase
returns-clause-failed_erase c t new u runs b p s m v held =
    let anew = runs.3.3 in
    let before = sym (anew.moved (anew.from b) p) ∙ ((λ i. t (anew.inverse b i) p) ∙ held) in
    erased_holds_none s m v (sym (runs.2.0 (anew.from b) p) ∙ runs.3.2.within (anew.from b) p s m v before)

pub returns-clause-failed_chosen : goal.returns-clause-failed_chosen
returns-clause-failed_chosen c events t new u runs = (runs.0, runs.1, runs.2, runs.3.1)

pub returns-clause-failed_same : goal.returns-clause-failed_same
returns-clause-failed_same c events t new u runs = (runs.0, runs.1, runs.2, runs.3.5)
