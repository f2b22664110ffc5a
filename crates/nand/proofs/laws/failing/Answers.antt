use Rattle.std.proofs.Common.{◌≡◌, ◌∙◌, ◌+◌, ◌-◌, ◌%◌, ◌^◌, ℕ, Bool, true, false, List, [], ◌∷◌, refl, sym, ap, subst, arith}
use Rattle.nand.specs.Chip.{chip_bad, chip_faults, chip_shape}
use Rattle.nand.specs.Numbers.{good_before}
use Rattle.nand.specs.declared.flash.Fault.TheVariants as fault
use Rattle.nand.proofs.laws.failing.Goals as goal

pub returns-clause-one_mark : goal.returns-clause-one_mark
returns-clause-one_mark c old new updates is marks blocks was now three =
    let good = λ (m : List Bool). good_before m (chip_shape old.nand).blocks in
    let before : good (chip_bad old.nand) ≡ 2 = ap good was ∙ subst (λ (n : ℕ). good_before (false ∷ false ∷ []) n ≡ 2) (sym blocks) refl in
    let after : good (chip_bad new.nand) ≡ 1 = ap good now ∙ subst (λ (n : ℕ). good_before (true ∷ false ∷ []) n ≡ 1) (sym blocks) refl in
    let four : chip_faults old.nand fault.Failed + (good (chip_bad old.nand) - good (chip_bad new.nand)) ≡ 4 = omega (arith, before, after, three) in
    marks updates is ∙ ap (λ (n : ℕ). n % 2 ^ 64) four
