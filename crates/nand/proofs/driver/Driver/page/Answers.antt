use Rattle.std.proofs.Common.{◌≡◌, ℕ, List, None, Some, sym, ◌∙◌, ap, subst}
use Rattle.geometry.specs.declared.page_addr.PageAddr.{PageAddr}
use Rattle.durable.specs.Memory.{IsMappedTo, map_entry}
use Rattle.nand.specs.Driving.{HasSector, array_now}
use Rattle.nand.specs.Numbers.{chip_page, numbered}
use Rattle.nand.proofs.Driven.{has_sector, reads_at_rest}
use Rattle.nand.proofs.driver.Driver.page.Goals as goal

pub returns-in-Some-clause-gives : goal.returns-in-Some-clause-gives
returns-in-Some-clause-gives c f value was holds rests within =
    let driver = c.args.self.now in
    let ns = driver.numbers.items in
    let now = array_now driver value was c.args.sector in
    let kept = reads_at_rest driver.phase f driver value was holds rests c.args.sector within in
    let entry : map_entry driver.core c.args.sector ≡ Some c.in-Some.at = sym c.in-Some.ensures.map in
    let place : c.chip_page.result ≡ chip_page ns c.in-Some.at =
    c.chip_page.ensures ∙ ap (λ (numbers : List ℕ). chip_page numbers c.in-Some.at) c.deref.ensures.value in
    subst (λ (at : PageAddr). HasSector f c.args.sector now (Some at)) (sym place)
    (has_sector f ns c.args.sector now c.in-Some.at (subst (IsMappedTo (numbered ns f) c.args.sector now) entry kept))

pub returns-in-None-clause-gives : goal.returns-in-None-clause-gives
returns-in-None-clause-gives c f value was holds rests within =
    let driver = c.args.self.now in
    let now = array_now driver value was c.args.sector in
    let kept = reads_at_rest driver.phase f driver value was holds rests c.args.sector within in
    let entry : map_entry driver.core c.args.sector ≡ None = sym c.in-None.ensures.map in
    (subst (IsMappedTo (numbered driver.numbers.items f) c.args.sector now) entry kept).0
