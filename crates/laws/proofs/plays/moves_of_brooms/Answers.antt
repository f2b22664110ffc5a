use Rattle.std.proofs.Common.{refl, ap}
use Rattle.flash_rule.specs.declared.view.View.{View}
use Rattle.laws.proofs.plays.moves_of_brooms.Goals as goal

pub returns-clause-moves : goal.returns-clause-moves
returns-clause-moves c st me after x m h can fits copy word first second =
    (h.0, ((h.1 x m can fits copy word first second).succeeded refl).0, ap (λ (v : View). v.cleared) (h.1 x m can fits copy word first second).changed)
