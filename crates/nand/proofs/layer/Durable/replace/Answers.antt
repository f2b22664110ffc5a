use Rattle.std.proofs.Common.{◌≡◌, ◌⊎◌, ◌∙◌, ◌+◌, ◌-◌, ℕ, List, Bool, refl, sym, ap, subst, arith}
use Rattle.std.proofs.lemmas.Bool.{false≢true}
use Rattle.durable.specs.Flash.{Flash}
use Rattle.durable.specs.Retiring.{HasLeftVersion}
use Rattle.nand.specs.Numbers.{Marks, chip_block, good_before, numbered}
use Rattle.nand.proofs.Replacing.{accepted, block_lies, fewer_left, goes_on, numbers_lie, still_opens}
use Rattle.nand.proofs.layer.Durable.replace.Goals as goal

pub returns-in-Err-clause-closed : goal.returns-in-Err-clause-closed
returns-in-Err-clause-closed g c value updates is =
    let old = c.args.self.now in
    let number = c.changed_block-number.result in
    let changes = c.changed_block-number.ensures is.some in
    let place : c.chip_block.result ≡ chip_block old.numbers.items number =
    c.chip_block.ensures ∙ ap (λ (ns : List ℕ). chip_block ns number) c.deref.ensures.value in
    let bad = g.N.Nand.bad c.mark_bad.new.self in
    let only = subst (λ (b : ℕ). (bad ≡ g.N.Nand.bad old.nand) ⊎ Marks (g.N.Nand.bad old.nand) bad b) place c.mark_bad.ensures.only in (
      refl,
      is.closed,
      still_opens g.N.Nand.flash g.N.Nand.shape g.N.Nand.bad old c.args.extent value c.args.command updates is c.requires.some number changes
          c.mark_bad.new.self (c.mark_bad.ensures.flash, c.mark_bad.ensures.shape) only,
    )

pub returns-in-Err-has_left-clause-closed : goal.returns-in-Err-has_left-clause-closed
returns-in-Err-has_left-clause-closed g c value updates is =
    let old = c.args.self.now in
    let number = c.changed_block-number.result in
    let changes = c.changed_block-number.ensures is.some in
    let place : c.chip_block.result ≡ chip_block old.numbers.items number =
    c.chip_block.ensures ∙ ap (λ (ns : List ℕ). chip_block ns number) c.deref.ensures.value in
    let bad = g.N.Nand.bad c.has_left.new.nand in
    let only = subst (λ (m : List Bool). (m ≡ g.N.Nand.bad old.nand) ⊎ Marks (g.N.Nand.bad old.nand) m (chip_block old.numbers.items number))
    (sym c.has_left.ensures.bad)
    (subst (λ (b : ℕ). (g.N.Nand.bad c.mark_bad.new.self ≡ g.N.Nand.bad old.nand) ⊎ Marks (g.N.Nand.bad old.nand) (g.N.Nand.bad c.mark_bad.new.self) b)
    place c.mark_bad.ensures.only) in (
      refl,
      is.closed,
      still_opens g.N.Nand.flash g.N.Nand.shape g.N.Nand.bad old c.args.extent value c.args.command updates is c.requires.some number changes
          c.has_left.new.nand (c.has_left.ensures.flash ∙ c.mark_bad.ensures.flash, c.has_left.ensures.shape ∙ c.mark_bad.ensures.shape) only,
    )

pub returns-then-not-retire-clause-closed : goal.returns-then-not-retire-clause-closed
returns-then-not-retire-clause-closed g c value updates is =
    let old = c.args.self.now in
    let number = c.changed_block-number.result in
    let changes = c.changed_block-number.ensures is.some in
    let place : c.chip_block.result ≡ chip_block old.numbers.items number =
    c.chip_block.ensures ∙ ap (λ (ns : List ℕ). chip_block ns number) c.deref.ensures.value in
    let lies = block_lies g.N.Nand.flash g.N.Nand.shape g.N.Nand.bad old c.args.extent value c.args.command updates is c.requires.some number changes in
    let marks = g.N.Nand.bad c.mark_bad.new.self in
    let marked = subst (Marks (g.N.Nand.bad old.nand) marks) place (c.in_default.ensures.marks (omega (arith, place, lies))) in
    let spare = old.good - 1 in
    let last : spare + 1 ≡ old.good = omega (arith, c.requires.some) in
    let fits = accepted g.N.Nand.flash g.N.Nand.shape g.N.Nand.bad old c.args.extent value c.args.command updates is c.requires.some number changes
    marks marked spare last in
    absurd (false≢true (sym c.if-not-retire.true ∙ c.retire.ensures.accepts (numbered old.numbers.items is.before) updates updates is.known
    fits.0 fits.1 fits.2 is.some))

pub returns-clause-replaced : goal.returns-clause-replaced
returns-clause-replaced g c value updates is =
    let old = c.args.self.now in
    let number = c.changed_block-number.result in
    let changes = c.changed_block-number.ensures is.some in
    let place : c.chip_block.result ≡ chip_block old.numbers.items number =
    c.chip_block.ensures ∙ ap (λ (ns : List ℕ). chip_block ns number) c.deref.ensures.value in
    let lies = block_lies g.N.Nand.flash g.N.Nand.shape g.N.Nand.bad old c.args.extent value c.args.command updates is c.requires.some number changes in
    let marks = g.N.Nand.bad c.mark_bad.new.self in
    let marked = subst (Marks (g.N.Nand.bad old.nand) marks) place (c.in_default.ensures.marks (omega (arith, place, lies))) in
    let spare = old.good - 1 in
    let last : spare + 1 ≡ old.good = omega (arith, c.requires.some) in
    let few = numbers_lie g.N.Nand.flash g.N.Nand.shape g.N.Nand.bad old c.args.extent value c.args.command updates is c.requires.some number changes
    marks marked spare last in
    let left = subst (λ (f : Flash). HasLeftVersion (numbered old.numbers.items f) c.args.command c.in-Ok.left) c.mark_bad.ensures.flash
    (rw c.deref-2.ensures.value at c.in-Ok.ensures.left) in (
      goes_on g.N.Nand.flash g.N.Nand.shape g.N.Nand.bad old c.args.extent value c.args.command updates is c.requires.some number changes marks marked
          spare last _ c.in-Ok.left refl
          (c.has_left.ensures.flash ∙ c.mark_bad.ensures.flash, c.has_left.ensures.shape ∙ c.mark_bad.ensures.shape, c.has_left.ensures.bad)
          last left (c.if-not-retire.ensures.retires refl) c.retire.ensures.device c.exchange.ensures.length
          (c.exchange.ensures.swapped few.0 few.1),
      ap (λ (m : List Bool). good_before m (g.N.Nand.shape old.nand).blocks + 1) c.has_left.ensures.bad
          ∙ fewer_left g.N.Nand.flash g.N.Nand.shape g.N.Nand.bad old c.args.extent value c.args.command updates is c.requires.some number changes marks marked,
    )
