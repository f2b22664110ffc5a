use Rattle.std.proofs.Common.{◌≡◌, ◌∙◌, ⊎_elim, ◌<◌, ℕ, true, false, [], ◌∷◌, sym, ap, subst, arith}
use Rattle.std.proofs.lemmas.Bool.{cases_eq, false≢true}
use Rattle.durable.specs.Spare.{IsDuplicated}
use Rattle.durable.specs.Updates.{sole}
use Rattle.nand.specs.Chip.{chip_bad, chip_flash, chip_shape}
use Rattle.nand.specs.Numbers.{is_marked}
use Rattle.nand.proofs.Orders.{erased_opens}
use Rattle.nand.proofs.laws.opened.Goals as goal

pub returns-clause-numbered : goal.returns-clause-numbered
returns-clause-numbered c layer v updates is held =
    is.consistent.represents.numbers (is.order.to 0) 0 (sole 7) 5 v ((λ i. chip_flash layer.nand (is.order.put 0 i) 0) ∙ held)

unmarked_second : (b : ℕ) → b < 2 → is_marked (true ∷ false ∷ []) b ≡ false → b ≡ 1
unmarked_second b lt good = ⊎_elim
    (λ first. absurd (false≢true (sym good ∙ ap (is_marked (true ∷ false ∷ [])) first)))
    (λ differs. omega (arith, lt, differs))
    (cases_eq b 0)

pub returns-clause-freed : goal.returns-clause-freed
returns-clause-freed c f shape two free = subst (IsDuplicated f 8) (unmarked_second free.0 (omega (arith, free.1, two)) free.2.0) free.3

pub returns-clause-erased : goal.returns-clause-erased
returns-clause-erased c chip erased some = erased_opens (chip_flash chip) (chip_shape chip) (chip_bad chip) 8 erased some
