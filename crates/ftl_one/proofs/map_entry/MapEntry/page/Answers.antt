use Rattle.std.proofs.Common.{◌∙◌, sym}
use Rattle.ftl_one.proofs.Entries.{named_none, named_some}
use Rattle.ftl_one.proofs.map_entry.MapEntry.page.Goals as goal

pub returns-then-self : goal.returns-then-self
returns-then-self c = sym (named_none _ c.if-self.true) ∙ c.self.view_is

pub returns : goal.returns
returns c = sym (named_some _ c.if-self.false) ∙ c.self.view_is
