use Rattle.std.proofs.Common.{◌≡◌, ◌<◌, ◌≤◌, ℕ, List, Option, Some, IfSome, sym, ◌∙◌, ap, subst, arith}
use Rattle.geometry.specs.declared.page_addr.PageAddr.{PageAddr}
use Rattle.durable.specs.declared.extent.Extent.{Extent}
use Rattle.durable.specs.Memory.{map_entry}
use Rattle.nand.specs.Driving.{IsMovingOf, array_now}
use Rattle.nand.specs.Numbers.{chip_page}
use Rattle.nand.proofs.Driven.{moves_from}
use Rattle.nand.proofs.driver.Driver.fetch.Goals as goal

pub returns-clause-holds : goal.returns-clause-holds
returns-clause-holds c f value was knows =
    let old = c.args.self.now in
    let at = c.in-Some.at in
    let now = array_now old value was in
    let extent : Extent = record { first = c.args.sector; count = c.count_at.result } in
    let entry : map_entry old.core c.args.sector ≡ Some at = sym c.in-Some.ensures.map in
    let failed = subst (λ (k : Option PageAddr). IfSome k (λ on. (old.unmarked ≤ on.block) × (on.block < old.spare))) entry c.requires.failed in
    let place : c.chip_page.result ≡ chip_page old.numbers.items at =
    c.chip_page.ensures ∙ ap (λ (ns : List ℕ). chip_page ns at) c.deref.ensures.value in (
      knows,
      now c.args.sector,
      subst (λ (from : PageAddr). IsMovingOf f old from extent now (now c.args.sector)) (sym place)
          (moves_from f old now extent at c.requires.made knows (omega (arith, old.after_use, failed.0)) failed.1
          (omega arith, omega (arith, c.count_at.ensures.some)) c.requires.sector
          (λ s has. (omega (arith, has.1, c.count_at.ensures.within), c.count_at.ensures.all s has.0 has.1))),
    )
