use Rattle.std.proofs.Common.{sym, ◌∙◌}
use Rattle.trace.proofs.Cuts.{open-closed, open-end, open-more, opens}
use Rattle.trace.proofs.cutting.quoted_end.Goals as goal

pub quotes-init : goal.quotes-init
quotes-init c = opens c.args.text.now c.args.start c.requires

pub returns-then-quote-text : goal.returns-then-quote-text
returns-then-quote-text c =
    open-end c.args.text.now c.args.start c.quotes.at c.quote_at-quote.result c.quotes.invariant c.quote_at-quote.ensures c.if-quote-text.true

pub returns-then-not-has : goal.returns-then-not-has
returns-then-not-has c =
    open-closed c.args.text.now c.args.start c.quotes.at c.quote_at-quote.result c.plain_end.result c.quotes.invariant c.quote_at-quote.ensures
    c.if-quote-text.false
    (sym c.has.ensures ∙ c.if-not-has.true) c.plain_end.ensures

pub quotes-preserved : goal.quotes-preserved
quotes-preserved c =
    open-more c.args.text.now c.args.start c.quotes.at c.quote_at-quote.result c.quotes.invariant c.quote_at-quote.ensures c.if-quote-text.false
    (sym c.has.ensures ∙ c.if-not-has.false)
