use Rattle.std.proofs.lemmas.List.{take_rest}
use Rattle.trace.proofs.Records.{mark-not_there, mark-there}
use Rattle.trace.proofs.cutting.mark_end.Goals as goal

pub returns-then-starts_with : goal.returns-then-starts_with
returns-then-starts_with c =
    mark-there c.args.text.now c.args.at c.starts_with.result c.requires
    (rw (take_rest c.args.text.now c.args.at) at c.starts_with.ensures.value) c.if-starts_with.true

pub returns-else-starts_with : goal.returns-else-starts_with
returns-else-starts_with c =
    mark-not_there c.args.text.now c.args.at c.starts_with.result c.requires
    (rw (take_rest c.args.text.now c.args.at) at c.starts_with.ensures.value) c.if-starts_with.false
