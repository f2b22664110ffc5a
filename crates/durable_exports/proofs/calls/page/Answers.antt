use Rattle.std.proofs.Common.{Some, sym, subst}
use Rattle.durable_exports.specs.Calls.{OfLayer, IsNewestPageOf}
use Rattle.durable_exports.specs.Reports.{found_page}
use Rattle.durable_exports.specs.declared.seat.Seat.{Seat}
use Rattle.durable_exports.proofs.calls.page.Goals as goal

pub returns-in-Mounted-clause-page : goal.returns-in-Mounted-clause-page
returns-in-Mounted-clause-page c =
    let says = IsNewestPageOf c.args.sector (found_page c.page.result c.page.new.out) in
    subst (λ (x : Seat). OfLayer (Some x) says) (sym c.in-Mounted.is) c.page.ensures.page
