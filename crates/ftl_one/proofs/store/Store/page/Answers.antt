use Rattle.std.proofs.Common.{◌≡◌, ◌∙◌, get_or, Option, None, Some, sym, ap, arith}
use Rattle.std.{proofs.lemmas.List.get_or_read, specs.Option.option_map}
use Rattle.geometry.specs.declared.page_addr.PageAddr.{PageAddr}
use Rattle.die.specs.Die.{block_of}
use Rattle.ftl_one.{specs.Entries.value_in, specs.Store.array_of, proofs.Maps.sector-at, proofs.Stores.size_of}
use Rattle.ftl_one.proofs.store.Store.page.Goals as goal
use Rattle.ftl_one.proofs.store.Store.page.Goals.{After-index}

-- the page that the map names
the_page : (c : After-index) → c.index.result.now ≡ get_or c.args.self.now.current.items c.args.sector None
the_page c =
    let s = c.args.self.now in
    get_or_read s.current.items c.args.sector c.index.result.now (omega (arith, c.requires, s.mapped.current_size)) c.index.ensures None

-- what the sector holds
the_sector : (c : After-index) → (o : Option PageAddr) → c.index.result.now ≡ o
    → get_or (array_of c.args.self.now) c.args.sector None ≡ option_map (value_in (size_of c.args.self.now) (block_of c.args.self.now.die)) o
unfolding array_of
the_sector c o e =
    let s = c.args.self.now in
    sector-at (size_of s) (block_of s.die) s.current.items c.args.sector o (omega (arith, c.requires, s.mapped.current_size)) (sym (the_page c) ∙ e)

pub page-requires-2 : goal.page-requires-2
page-requires-2 c =
    let s = c.args.self.now in
    let is = s.mapped.named c.args.sector c.in_ok-at.at (sym (the_page (goal.at.page-requires-2 c).After-index) ∙ (sym c.page.ensures ∙ c.in_ok-at.was)) in
    record { usable = record { within = is.block; not_retired = is.usable }; programmed = is.page }

pub returns-in_err-at-clause-none : goal.returns-in_err-at-clause-none
returns-in_err-at-clause-none c =
    rw c.from_residual.ensures (the_sector (goal.at.returns-in_err-at-clause-none c).After-index None (sym c.page.ensures ∙ c.in_err-at.was))

pub returns-clause-some : goal.returns-clause-some
returns-clause-some c =
    the_sector (goal.at.returns-clause-some c).After-index (Some c.in_ok-at.at) (sym c.page.ensures ∙ c.in_ok-at.was) ∙ ap Some (sym c.page-2.ensures.value)
