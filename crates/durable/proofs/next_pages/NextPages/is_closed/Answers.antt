use Rattle.std.proofs.Common.{inl, inr, sym, ◌∙◌}
use Rattle.durable.proofs.Opened.{in_block}
use Rattle.durable.proofs.next_pages.NextPages.is_closed.Goals as goal

pub returns-then-is_in-clause-no : goal.returns-then-is_in-clause-no
returns-then-is_in-clause-no c is_open closed =
    let there = in_block c.args.block c.args.self.hosts (sym c.is_in.ensures ∙ c.if-is_in.true) in closed there.0 (inl there.1) there.2

pub returns-then-is_in-2-clause-no : goal.returns-then-is_in-2-clause-no
returns-then-is_in-2-clause-no c is_open closed =
    let there = in_block c.args.block c.args.self.copies (sym c.is_in-2.ensures ∙ c.if-is_in-2.true) in closed there.0 (inr there.1) there.2
