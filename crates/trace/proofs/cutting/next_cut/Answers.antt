use Rattle.trace.proofs.Records.{cut-end, cut-five, cut-four, cut-one, cut-three, cut-two}
use Rattle.trace.proofs.cutting.next_cut.Goals as goal

pub returns-then-start-text : goal.returns-then-start-text
returns-then-start-text c =
    cut-end c.args.text.now c.args.at c.mark_end.result c.record_start-start.result c.mark_end.ensures c.record_start-start.ensures c.if-start-text.true

pub returns-then-not-worker : goal.returns-then-not-worker
returns-then-not-worker c =
    cut-one c.args.text.now c.args.at c.mark_end.result c.record_start-start.result c.mark_end.ensures c.record_start-start.ensures
    c.next_field-worker.result c.next_field-worker.ensures c.if-start-text.false
    c.if-not-worker.true

pub returns-then-not-op : goal.returns-then-not-op
returns-then-not-op c =
    cut-two c.args.text.now c.args.at c.mark_end.result c.record_start-start.result c.mark_end.ensures c.record_start-start.ensures
    c.next_field-worker.result c.next_field-worker.ensures c.if-start-text.false
    c.if-not-worker.false c.next_field-op.result c.next_field-op.ensures
    c.if-not-op.true

pub returns-then-not-sector : goal.returns-then-not-sector
returns-then-not-sector c =
    cut-three c.args.text.now c.args.at c.mark_end.result c.record_start-start.result c.mark_end.ensures c.record_start-start.ensures
    c.next_field-worker.result c.next_field-worker.ensures c.if-start-text.false
    c.if-not-worker.false c.next_field-op.result c.next_field-op.ensures
    c.if-not-op.false c.next_field-sector.result c.next_field-sector.ensures
    c.if-not-sector.true

pub returns-then-digits : goal.returns-then-digits
returns-then-digits c =
    cut-five c.args.text.now c.args.at c.mark_end.result c.record_start-start.result c.mark_end.ensures c.record_start-start.ensures
    c.next_field-worker.result c.next_field-worker.ensures c.if-start-text.false
    c.if-not-worker.false c.next_field-op.result c.next_field-op.ensures
    c.if-not-op.false c.next_field-sector.result c.next_field-sector.ensures
    c.if-not-sector.false c.next_field-digits.result c.next_field-digits.ensures
    c.if-digits.true

pub returns : goal.returns
returns c =
    cut-four c.args.text.now c.args.at c.mark_end.result c.record_start-start.result c.mark_end.ensures c.record_start-start.ensures
    c.next_field-worker.result c.next_field-worker.ensures c.if-start-text.false
    c.if-not-worker.false c.next_field-op.result c.next_field-op.ensures
    c.if-not-op.false c.next_field-sector.result c.next_field-sector.ensures
    c.if-not-sector.false c.next_field-digits.result c.next_field-digits.ensures
    c.if-digits.false c.plain_row.result c.plain_row.ensures
