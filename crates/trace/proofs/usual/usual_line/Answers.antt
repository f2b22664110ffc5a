use Rattle.std.proofs.Common.{arith}
use Rattle.trace.proofs.UsualLines.{usual_is}
use Rattle.trace.proofs.usual.usual_line.Goals as goal

pub returns : goal.returns
returns c =
    let worker = rw c.workers.ensures.value at c.in_ok-worker.ensures in
    let sector = rw c.sectors.ensures.value at c.in_ok-sector.ensures in
    let digits = rw c.page_bytes.ensures.value at c.in_ok-end.ensures in
    usual_is c.args.geometry.now c.args.text.now c.args.at c.line_start.result c.requires c.line_start.ensures
    c.in_ok-worker.worker worker c.in_ok-name.name c.in_ok-name.ensures c.in_ok-sector.sector sector c.in_ok-end.end digits
    (omega (arith, c.in_ok-worker.ensures.below, c.workers.ensures.few)) (omega (arith, c.in_ok-sector.ensures.below, c.sectors.ensures.high))
    (omega (arith, c.page_bytes.ensures.small, c.page_bytes.ensures.value))
