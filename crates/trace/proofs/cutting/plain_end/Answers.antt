use Rattle.std.proofs.Common.{sym, ◌∙◌, arith}
use Rattle.csv.specs.declared.parser.State.TheVariants.{InField}
use Rattle.trace.proofs.Cuts.{joins-none, plain-more}
use Rattle.trace.proofs.cutting.plain_end.Goals as goal

pub loop-end-init : goal.loop-end-init
loop-end-init c = joins-none InField c.args.text.now c.args.start c.requires

pub loop-end-preserved : goal.loop-end-preserved
loop-end-preserved c = plain-more c.args.text.now c.args.start c.loop-end.end c.loop-end.invariant (omega (arith, c.loop-end-test.true))
    (sym c.is_field_end.ensures ∙ c.if-is_field_end.false)
