use Rattle.std.proofs.Common.{◌≡◌, List, [], sym, ◌∙◌, subst, map, append-nil}
use Rattle.std.proofs.lemmas.List.{nil_from_length}
use Rattle.workers.specs.{declared.worker.Worker.Worker, declared.worker.tasks.Task.Task, Tasks.asked, Tasks.WerePlayed}
use Rattle.workers.proofs.team.join_workers.Goals as goal

pub returns-clause-played : goal.returns-clause-played
returns-clause-played g c = λ first.
    let n = c.args.limits in
    let none : c.loop-task.tasks.items ≡ [] = nil_from_length c.loop-task.tasks.items (sym c.loop-task.tasks.ok.0 ∙ c.in_default.ensures.cases.0) in
    let rest : WerePlayed (map (asked n) c.loop-task.tasks.items) [] = subst (λ (xs : List Task). WerePlayed (map (asked n) xs) []) (sym none) tt in
    subst (λ (xs : List Worker). WerePlayed (map (asked n) c.args.tasks.now.items) xs) (append-nil c.loop-task.workers.items)
    (c.loop-task.invariant.played first [] rest)
