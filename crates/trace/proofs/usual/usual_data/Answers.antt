use Rattle.std.proofs.Common.{sym, ◌∙◌}
use Rattle.trace.proofs.UsualLines.{data_none_there, data_there}
use Rattle.trace.proofs.usual.usual_data.Goals as goal

pub returns-else-end-start : goal.returns-else-end-start
returns-else-end-start c =
    data_there c.args.text.now c.args.start c.digits_end-end.result c.args.size c.args.op c.in-Write.is c.digits_end-end.ensures
    (sym c.has.ensures ∙ c.if-not-has.false)
    c.if-end-start-ne0.false c.if-end-start.false

pub returns-in-Read : goal.returns-in-Read
returns-in-Read c = data_none_there c.args.text.now c.args.start c.args.size c.args.op c.in-Read.is c.requires (sym c.if-has.ensures)
