use Rattle.std.proofs.{Common.get_or, lemmas.Bool.ne_eqb}
use Rattle.csv.specs.declared.parser.State.TheVariants.{InQuoted}
use Rattle.trace.proofs.Cuts.{joins-none, quoted-more}
use Rattle.trace.proofs.cutting.quote_at.Goals as goal

pub loop-quote-init : goal.loop-quote-init
loop-quote-init c = joins-none InQuoted c.args.text.now c.args.from c.requires

pub loop-quote-preserved : goal.loop-quote-preserved
loop-quote-preserved c = quoted-more c.args.text.now c.args.from c.loop-quote.quote c.loop-quote.invariant c.loop-quote-test.true
    (ne_eqb (get_or c.args.text.now c.loop-quote.quote 0) 34 c.if-text-quote-eq34.false)
