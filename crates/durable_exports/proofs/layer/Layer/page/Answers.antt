use Rattle.std.proofs.Common.{sym, subst}
use Rattle.durable.specs.Flash.{HoldsNewest}
use Rattle.durable.specs.Updates.{array_after}
use Rattle.durable.specs.Memory.{IsMappedTo}
use Rattle.durable_exports.specs.declared.reports.PlaceReport.{PlaceReport}
use Rattle.durable_exports.proofs.layer.Layer.page.Goals as goal

pub returns-clause-page : goal.returns-clause-page
returns-clause-page c within f acked begun consistent =
    let s = c.args.sector in
    let value = array_after consistent.updates s in
    let mapped = subst (IsMappedTo f s value) c.in-Some.is (c.page.ensures.newest f acked begun consistent) in
    subst (λ (place : PlaceReport). HoldsNewest f s value place.block place.page) (sym c.place.ensures) mapped
