use Rattle.trace.proofs.UsualLines.{new_there, read_there, trim_there, write_there}
use Rattle.trace.proofs.usual.usual_op.Goals as goal

pub returns-then-has_all : goal.returns-then-has_all
returns-then-has_all c = read_there c.args.text.now c.args.start c.requires _ (c.has_all.ensures c.if-has_all.true)

pub returns-then-has_all-2 : goal.returns-then-has_all-2
returns-then-has_all-2 c = write_there c.args.text.now c.args.start c.requires _ (c.has_all-2.ensures c.if-has_all-2.true)

pub returns-then-has_all-3 : goal.returns-then-has_all-3
returns-then-has_all-3 c = trim_there c.args.text.now c.args.start c.requires _ (c.has_all-3.ensures c.if-has_all-3.true)

pub returns-then-has_all-4 : goal.returns-then-has_all-4
returns-then-has_all-4 c = new_there c.args.text.now c.args.start c.requires _ (c.has_all-4.ensures c.if-has_all-4.true)
