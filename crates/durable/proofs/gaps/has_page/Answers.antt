use Rattle.std.proofs.Common.{◌∙◌, ap, sym, arith}
use Rattle.durable.specs.Losses.{is_at}
use Rattle.durable.proofs.Losses.{found_has, none_has, at_is}
use Rattle.durable.proofs.gaps.has_page.Goals as goal

pub returns-then-x-block : goal.returns-then-x-block
returns-then-x-block c = sym (found_has c.args.block c.args.found.now.items c.loop-i.i (omega (arith, c.loop-i-test.true, c.loop-i.auto.i-end))
    (ap (is_at c.args.block) (sym c.get.ensures.version ∙ c.in-Some.is) ∙ at_is c.args.block c.in-Some.x c.if-x-block.true))

pub returns : goal.returns
returns c = sym (none_has c.args.block c.args.found.now.items (λ s lt. c.loop-i.invariant s (omega (arith, lt, c.loop-i-test.false, c.loop-i.auto.i-end))))
