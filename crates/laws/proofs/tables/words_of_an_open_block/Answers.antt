use Rattle.std.proofs.Common.{◌++◌, [], ◌∷◌, Some, refl, ap, ◌∙◌}
use Rattle.flash_rule.specs.{declared.view.View.View, Plays.words_in}
use Rattle.geometry.specs.declared.words.Phase.TheVariants as phase
use Rattle.laws.specs.{Brooms.a_page, Steps.an_open, Steps.an_owned}
use Rattle.laws.proofs.tables.words_of_an_open_block.Goals as goal

pub returns-clause-placed : goal.returns-clause-placed
returns-clause-placed c p q m x a told number can = ap (λ (v : View). v.mine) (told 2 x number can).changed

pub returns-clause-put : goal.returns-clause-put
returns-clause-put c v w none h =
    h (an_open 3 1 2) refl ∙
    ap (λ k. record v { work = Some (record { page = a_page 1 3 2; words = words_in k (an_owned 3 phase.Open 1 2) ++ 7 ∷ [] }) }) none
