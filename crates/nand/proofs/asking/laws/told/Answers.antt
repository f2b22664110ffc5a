use Rattle.std.proofs.Common.{◌≡◌, ◌∙◌, ℕ, Bool, List, true, false, ◌∷◌, [], Option, Some, ap, subst, sym, arith}
use Rattle.std.proofs.lemmas.Bool.{true≢false}
use Rattle.durable.specs.Flash.{Flash}
use Rattle.durable.specs.declared.mount.Mount.{Mount}
use Rattle.nand.specs.Numbers.{IsOrder, good_before, is_marked}
use Rattle.nand.specs.Opened.{most_used}
use Rattle.nand.specs.Opening.{HasNotedIn, HasNotedPages, HasHeard}
use Rattle.nand.specs.declared.opening.Opening.{Opening}
use Rattle.nand.proofs.asking.laws.told.Goals as goal

has : (f : Flash) (bad : List Bool) (opening : Opening) (mount : Mount) → HasHeard f bad opening → opening.mount ≡ Some mount
    → HasNotedPages f bad opening.shape opening.sectors opening.numbers.items mount
has f bad opening mount read is = subst (λ (m : Option Mount). HasNotedIn f bad opening.shape opening.sectors opening.numbers.items m) is read.noted

pub returns-clause-first : goal.returns-clause-first
returns-clause-first c f opening read two =
    let order = subst (λ (n : ℕ). IsOrder opening.numbers.items (true ∷ false ∷ []) n (most_used opening.shape opening.sectors)) two read.order in
    λ e. absurd (true≢false (sym (ap (is_marked (true ∷ false ∷ [])) e) ∙ order.good 0 (omega arith)))

pub returns-clause-good : goal.returns-clause-good
returns-clause-good c f opening read two = read.good ∙ ap (good_before (true ∷ false ∷ [])) two

pub returns-clause-all : goal.returns-clause-all
returns-clause-all c f bad opening mount read is = (has f bad opening mount read is).all

pub returns-clause-device : goal.returns-clause-device
returns-clause-device c f bad opening mount read is = (has f bad opening mount read is).device

pub returns-clause-number : goal.returns-clause-number
returns-clause-number c f bad opening mount read is below = (has f bad opening mount read is).number 7 below

pub returns-clause-capacity : goal.returns-clause-capacity
returns-clause-capacity c f bad opening mount read is = (has f bad opening mount read is).capacity

pub returns-clause-noted : goal.returns-clause-noted
returns-clause-noted c f bad opening mount read is = (has f bad opening mount read is).noted
