use Rattle.std.proofs.Common.{refl, ap}
use Rattle.flash_rule.specs.declared.view.View.{View}
use Rattle.laws.proofs.plays.steps_of_brooms.Goals as goal

pub returns-clause-claim : goal.returns-clause-claim
returns-clause-claim c st me after p h can word first =
    (h.0, ap (λ (v : View). v.cleared) ((h.1 3 p can word first).won refl), ap (λ (v : View). v.owns) ((h.1 3 p can word first).won refl))

pub returns-clause-lost : goal.returns-clause-lost
returns-clause-lost c st me after p n h other can word first =
    (ap (λ (v : View). v.lost) ((h.1 3 p can word first).lost other), ap (λ (v : View). v.owns) ((h.1 3 p can word first).lost other))

pub returns-clause-condemn : goal.returns-clause-condemn
returns-clause-condemn c st me after p h can word first =
    (h.0, ap (λ (v : View). v.wiped) ((h.1 3 p can word first).won refl), ap (λ (v : View). v.erases) ((h.1 3 p can word first).won refl))
