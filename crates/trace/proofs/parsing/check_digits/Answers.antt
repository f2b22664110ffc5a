use Rattle.std.proofs.Common.{sym, ◌∙◌}
use Rattle.trace.proofs.Data.{makes_meet, makes_none, makes_write, refuses_long}
use Rattle.trace.proofs.parsing.check_digits.Goals as goal

pub returns-then-digits-size-clause-refused : goal.returns-then-digits-size-clause-refused
returns-then-digits-size-clause-refused c =
    refuses_long c.args.size c.args.op _ _ c.args.digits.now c.in-Write.is (c.if-not-are_pairs.ensures) c.if-digits-size.true

pub returns-else-digits-size-clause-made : goal.returns-else-digits-size-clause-made
returns-else-digits-size-clause-made c =
    makes_write c.args.size c.args.op _ _ c.args.digits.now c.in-Write.is (c.if-not-are_pairs.ensures) c.if-digits-size.false

pub returns-in-Read-clause-made : goal.returns-in-Read-clause-made
returns-in-Read-clause-made c = makes_none c.args.size c.args.op _ _ c.args.digits.now c.in-Read.is (sym c.is_empty.ensures ∙ c.if-is_empty.true)

pub returns-in-Meet-clause-made : goal.returns-in-Meet-clause-made
returns-in-Meet-clause-made c =
    makes_meet c.args.size c.args.op _ _ c.args.digits.now c.in-Meet.is (sym (c.if-is_empty-2.ensures)) c.if-worker-eq0.true c.if-sector-eq0.true
