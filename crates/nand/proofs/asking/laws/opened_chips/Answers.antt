use Rattle.std.proofs.Common.{◌∙◌, ℕ, true, false, ◌∷◌, [], ap, subst, sym, arith}
use Rattle.std.proofs.lemmas.Bool.{true≢false}
use Rattle.durable.specs.Collecting.{HasCapacity}
use Rattle.durable.specs.Device.{Device}
use Rattle.nand.specs.Numbers.{IsOrder, good_before, is_marked}
use Rattle.nand.specs.Opened.{most_used}
use Rattle.nand.proofs.asking.laws.opened_chips.Goals as goal

pub returns-clause-order : goal.returns-clause-order
returns-clause-order c f shape opened is two =
    let order = subst (λ (n : ℕ). IsOrder opened.numbers.items (true ∷ false ∷ []) n (most_used shape 8)) two is.order in
    λ e. absurd (true≢false (sym (ap (is_marked (true ∷ false ∷ [])) e) ∙ order.good 0 (omega arith)))

pub returns-clause-good : goal.returns-clause-good
returns-clause-good c f shape opened is two = is.good ∙ ap (good_before (true ∷ false ∷ [])) two

pub returns-clause-device : goal.returns-clause-device
returns-clause-device c f bad shape opened is = ap (λ (d : Device). d.sectors) is.device

pub returns-clause-capacity : goal.returns-clause-capacity
returns-clause-capacity c f shape opened is = λ one.
    let fits : HasCapacity 8 0 shape.pages = subst (λ (n : ℕ). HasCapacity 8 (good_before (true ∷ []) n) shape.pages) one is.capacity in
    absurd (omega (arith, fits))

pub returns-clause-number : goal.returns-clause-number
returns-clause-number c f bad shape opened is below = is.number 7 below

pub returns-clause-quiet : goal.returns-clause-quiet
returns-clause-quiet c f bad shape opened updates is readable no_loss = is.quiet updates updates readable no_loss
