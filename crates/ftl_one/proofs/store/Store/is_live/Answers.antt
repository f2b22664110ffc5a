use Rattle.std.proofs.Common.{◌≡◌, ◌∙◌, ℕ, ◌<◌, false, length, get_or, Option, None, Some, sym, ap, refl, arith}
use Rattle.std.{proofs.lemmas.List.get_or_read, specs.Option.option_eq}
use Rattle.geometry.specs.{contracts.page_addr.PageAddrPartialEq.TheImpl.eq-value, declared.page_addr.PageAddr.PageAddr}
use Rattle.die.specs.{Die.block_of, Pages.page_at}
use Rattle.ftl_one.specs.{Stock.Entry, Entries.is_page}
use Rattle.ftl_one.proofs.Stores.{size_of, programmed_page, length-entries_of, get_or-entries_of}
use Rattle.ftl_one.proofs.store.Store.is_live.Goals as goal

pub stamp-requires : goal.stamp-requires
stamp-requires c = programmed_page c.args.self.now c.args.at c.requires.block c.requires.usable c.requires.page

pub index-requires : goal.index-requires
index-requires c =
    let s = c.args.self.now in
    omega (
      arith,
      c.stamp.ensures,
      s.current.ok.0,
      s.mapped.current_size,
      s.mapped.stamps c.args.at.block c.args.at.page c.requires.block (omega (arith, c.requires.page, length-entries_of s c.args.at.block)),
    )

-- the page that is named is the one that is asked for
the_eq : (at : PageAddr) (o : Option PageAddr) → option_eq eq-value.it o (Some at) ≡ is_page o at.block at.page
the_eq at None = refl
the_eq at (Some to) = refl

pub returns : goal.returns
returns c =
    let s = c.args.self.now in
    let at = c.args.at in
    let page = page_at (size_of s) (block_of s.die at.block) at.page in
    let low : page.stamp < length s.current.items =
    omega (
      arith,
      s.mapped.current_size,
      s.mapped.stamps at.block at.page c.requires.block (omega (arith, c.requires.page, length-entries_of s at.block)),
    ) in
    let named : c.index.result.now ≡ get_or s.current.items page.stamp None =
    get_or_read s.current.items c.stamp.result c.index.result.now (omega (arith, low, c.stamp.ensures)) c.index.ensures None
    ∙ ap (λ (k : ℕ). get_or s.current.items k None) c.stamp.ensures in
    c.eq.ensures
    ∙ (the_eq at c.page.result
    ∙ (ap (λ (o : Option PageAddr). is_page o at.block at.page) (c.page.ensures ∙ named)
    ∙ ap (λ (e : Entry). e.live) (sym (get_or-entries_of s at.block at.page (record { sector = 0; live = false }) c.requires.page))))
