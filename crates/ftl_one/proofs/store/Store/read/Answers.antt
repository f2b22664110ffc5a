use Rattle.std.proofs.Common.{◌≡◌, ◌∙◌, get_or, Option, None, Some, sym, refl, arith}
use Rattle.std.{proofs.lemmas.List.get_or_read, specs.Option.option_map}
use Rattle.geometry.specs.declared.page_addr.PageAddr.{PageAddr}
use Rattle.die.specs.Die.{block_of}
use Rattle.ftl_one.{specs.Entries.value_in, specs.Store.array_of, proofs.Maps.sector-at, proofs.Stores.size_of}
use Rattle.ftl_one.proofs.store.Store.read.Goals as goal
use Rattle.ftl_one.proofs.store.Store.read.Goals.{After-index}

-- the page that the map names
the_page : (c : After-index) → c.index.result.now ≡ get_or c.args.self.now.current.items c.args.sector None
the_page c =
    let s = c.args.self.now in
    get_or_read s.current.items c.args.sector c.index.result.now (omega (arith, c.requires.sector, s.mapped.current_size)) c.index.ensures None

-- what the sector holds
the_sector : (c : After-index) → (o : Option PageAddr) → c.index.result.now ≡ o
    → get_or (array_of c.args.self.now) c.args.sector None ≡ option_map (value_in (size_of c.args.self.now) (block_of c.args.self.now.die)) o
unfolding array_of
the_sector c o e =
    let s = c.args.self.now in
    sector-at (size_of s) (block_of s.die) s.current.items c.args.sector o (omega (arith, c.requires.sector, s.mapped.current_size)) (sym (the_page c) ∙ e)

pub read-requires-clause-usable : goal.read-requires-clause-usable
read-requires-clause-usable c =
    let s = c.args.self.now in
    let is = s.mapped.named c.args.sector c.in-Some.at
    (sym (the_page (goal.at.read-requires-clause-usable c).After-index) ∙ (sym c.page.ensures ∙ c.in-Some.is)) in
    record { within = is.block; not_retired = is.usable }

pub returns-in-None : goal.returns-in-None
returns-in-None c = rw (the_sector (goal.at.returns-in-None c).After-index None (sym c.page.ensures ∙ c.in-None.is)) (refl, refl)

pub returns-in-Some : goal.returns-in-Some
returns-in-Some c =
    rw (the_sector (goal.at.returns-in-Some c).After-index (Some c.in-Some.at) (sym c.page.ensures ∙ c.in-Some.is)) (refl, c.read.ensures.value)
