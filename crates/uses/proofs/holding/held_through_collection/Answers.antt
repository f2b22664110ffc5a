use Rattle.std.proofs.Common.{◌∙◌, sym}
use Rattle.uses.proofs.holding.held_through_collection.Goals as goal

pub returns-clause-same : goal.returns-clause-same
returns-clause-same c = λ _.
    let held = c.in-Held.ensures in
    let first = c.copy_into.ensures.value held.0 held.1 in
    let second = c.copy_into-2.ensures.value held.0 first.1 in
    second.0 ∙ sym first.0
