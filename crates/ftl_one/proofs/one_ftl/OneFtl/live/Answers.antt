use Rattle.std.proofs.{Common.◌≡◌, Common.◌∙◌, Common.get_or, Common.sym, Common.ap, Common.arith, lemmas.Grind.common_steps}
use Rattle.ftl_one.specs.{OneFtl.geometry_of, OneFtl.stock_of, Store.counts_of, Laws.block_at, Stock.live_of}
use Rattle.ftl_one.proofs.{Stores.count-entries_of, Layers.block_at-stock}
use Rattle.ftl_one.proofs.one_ftl.OneFtl.live.Goals as goal

pub returns : goal.returns
unfolding geometry_of counts_of
returns c =
    let f = c.args.self.now in
    let b = c.args.block in
    let counted : get_or (counts_of f.store) b 0 ≡ live_of (block_at (stock_of f) b) =
    count-entries_of f.store b c.requires ∙ sym (ap live_of (block_at-stock f b c.requires)) in
    grind (arith, common_steps, c.from.ensures, c.live.ensures.value, counted)
