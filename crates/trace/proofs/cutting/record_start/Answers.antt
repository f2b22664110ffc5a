use Rattle.std.proofs.{Common.sym, Common.◌∙◌, Common.arith, lemmas.Grind.common_steps}
use Rattle.trace.proofs.Records.{starts-more}
use Rattle.trace.proofs.cutting.record_start.Goals as goal

pub loop-start-preserved : goal.loop-start-preserved
loop-start-preserved c = starts-more c.args.text.now c.args.from c.loop-start.start c.loop-start.invariant c.loop-start-test.true
    (sym c.is_line_end.ensures ∙ c.if-not-is_line_end.false)

pub returns-then-not-is_line_end : goal.returns-then-not-is_line_end
returns-then-not-is_line_end c = record { low = omega arith; high = omega arith; same = c.loop-start.invariant; stops = grind (arith, common_steps) }
