use Rattle.std.proofs.Common.{◌-◌, drop, refl, sym, take, ◌∙◌}
use Rattle.trace.proofs.Cuts.{plain-field, stands-before}
use Rattle.trace.proofs.cutting.next_field.Goals as goal

pub returns : goal.returns
returns c =
    let end = c.plain_end-end.ensures in
    record {
      value = take (c.plain_end-end.result - c.args.start) (drop c.args.start c.args.text.now);
      is = plain-field c.args.text.now c.args.start c.plain_end-end.result (sym c.has.ensures ∙ c.if-has.false) end;
      told = refl;
      place = stands-before c.args.text.now c.args.start c.plain_end-end.result end.joins.low end.joins.high;
      comma = c.has-2.ensures;
    }
