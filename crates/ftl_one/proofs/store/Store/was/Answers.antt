use Rattle.std.proofs.{Common.◌∙◌, Common.None, Common.ap, Common.arith, lemmas.List.get_or_read}
use Rattle.ftl_one.{specs.Entries.was_by, proofs.Stores.was-named}
use Rattle.ftl_one.proofs.store.Store.was.Goals as goal

pub returns : goal.returns
returns c =
    let s = c.args.self.now in
    c.answer_of.ensures
    ∙ (ap was_by c.page.ensures
    ∙ was-named s c.args.sector c.index.result.now c.requires
    (get_or_read s.current.items c.args.sector c.index.result.now (omega (arith, c.requires, s.mapped.current_size)) c.index.ensures None))
