use Rattle.std.proofs.Common.{◌≡◌, ◌+◌, ◌≤◌, length, subst, sym, ◌∙◌, arith}
use Rattle.csv.specs.declared.parser.State.TheVariants.{InField}
use Rattle.trace.{specs.Cutting.Joins, proofs.Cuts.plain-more, proofs.Cuts.plain-run, proofs.Cuts.stops-at}
use Rattle.trace.proofs.cutting.far_end.Goals as goal

pub returns-then-run-lt-LANES : goal.returns-then-run-lt-LANES
returns-then-run-lt-LANES c =
    let run = c.field_run-run.ensures in
    let within : c.blocks-2.at + c.field_run-run.result ≤ length c.args.text.now = omega (arith, c.blocks-2-test.true, c.if-run-lt-LANES.true) in record {
      joins = plain-run c.args.text.now c.args.start c.blocks-2.at c.field_run-run.result c.blocks-2.invariant within run.joins;
      stops = stops-at c.args.text.now (c.blocks-2.at + c.field_run-run.result) (omega (arith, c.blocks-2-test.true, c.if-run-lt-LANES.true))
          (run.stops c.if-run-lt-LANES.true);
    }

pub blocks-2-preserved : goal.blocks-2-preserved
blocks-2-preserved c =
    let run = c.field_run-run.ensures in
    let whole : c.field_run-run.result ≡ 16 = omega (arith, run.within, c.if-run-lt-LANES.false) in
    let within : c.blocks-2.at + c.field_run-run.result ≤ length c.args.text.now = omega (arith, c.blocks-2-test.true, whole) in
    subst (λ n. Joins InField c.args.text.now c.args.start (c.blocks-2.at + n)) whole
    (plain-run c.args.text.now c.args.start c.blocks-2.at c.field_run-run.result c.blocks-2.invariant within run.joins)

pub loop-end-preserved : goal.loop-end-preserved
loop-end-preserved c = plain-more c.args.text.now c.args.start c.loop-end.end c.loop-end.invariant c.loop-end-test.true
    (sym c.is_field_end.ensures ∙ c.if-is_field_end.false)
