use Rattle.std.proofs.Common.{◌≡◌, List, [], sym, ◌∙◌, subst, map, append-nil}
use Rattle.std.proofs.lemmas.List.{nil_from_length}
use Rattle.workers.specs.declared.collector.{Collector.Collector, broom_thread.BroomThread.BroomThread}
use Rattle.workers.specs.Collecting.{HaveCollected, given_to}
use Rattle.workers.proofs.team.join_collectors.Goals as goal

pub returns-clause-collected : goal.returns-clause-collected
returns-clause-collected g c = λ first.
    let none : c.loop-next.collecting.items ≡ [] =
    nil_from_length c.loop-next.collecting.items (sym c.loop-next.collecting.ok.0 ∙ c.in_default.ensures.cases.0) in
    let rest : HaveCollected (map given_to c.loop-next.collecting.items) [] =
    subst (λ (xs : List BroomThread). HaveCollected (map given_to xs) []) (sym none) tt in
    subst (λ (xs : List Collector). HaveCollected (map given_to c.args.collecting.now.items) xs) (append-nil c.loop-next.collectors.items)
    (c.loop-next.invariant.collected first [] rest)
