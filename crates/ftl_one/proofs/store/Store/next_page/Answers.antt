use Rattle.std.proofs.Common.{◌∙◌, sym}
use Rattle.ftl_one.proofs.Stores.{length-entries_of}
use Rattle.ftl_one.proofs.store.Store.next_page.Goals as goal

pub returns-clause-page : goal.returns-clause-page
returns-clause-page c = c.next.ensures.value ∙ sym (length-entries_of c.args.self.now c.args.block)
