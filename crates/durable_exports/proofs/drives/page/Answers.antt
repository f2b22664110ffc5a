use Rattle.std.proofs.Common.{Some, sym, subst}
use Rattle.nand.specs.Driving.{HasSector, array_now}
use Rattle.durable_exports.specs.Reports.{page_at}
use Rattle.durable_exports.specs.declared.reports.PlaceReport.{PlaceReport}
use Rattle.durable_exports.proofs.drives.page.Goals as goal

pub returns-clause-page : goal.returns-clause-page
returns-clause-page c f value was holds reads within =
    let s = c.args.sector in
    let has = array_now c.args.driver.now value was s in
    let found = subst (HasSector f s has) c.in-Some.is (c.page.ensures.gives f value was holds reads within) in
    subst (λ (place : PlaceReport). HasSector f s has (Some (page_at place))) (sym c.place.ensures) found
