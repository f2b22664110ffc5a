use Rattle.std.proofs.Common.{◌≡◌, ◌∙◌, ℕ, List, get_or, set, Option, None, sym, ap, subst, arith}
use Rattle.std.{specs.Vec.with_items, proofs.lemmas.List.get_or_read}
use Rattle.geometry.specs.{declared.page_addr.PageAddr.PageAddr, Geometry.blocks_of, Geometry.page_bytes_of, Geometry.sectors_of}
use Rattle.die.specs.Die.{geometry_of as die_geometry_of, block_of}
use Rattle.ftl_one.specs.{Entries.Recounts, Entries.IsMapped, Entries.sectors_in, Entries.entries_in, Store.array_of, Store.entries_of}
use Rattle.ftl_one.proofs.Maps.{mapped-forget, entries-forget, sectors-set}
use Rattle.ftl_one.proofs.Stores.{named_within, named_counted, was-named, recounted}
use Rattle.ftl_one.proofs.store.Store.forget.Goals as goal
use Rattle.ftl_one.proofs.store.Store.forget.Goals.{After-page-was, After-recount}

-- the page that the map named
the_was : (c : After-page-was) → get_or c.args.self.now.current.items c.args.sector None ≡ c.page-was.result
the_was c =
    let s = c.args.self.now in
    sym (c.page-was.ensures ∙ (c.replace-entry.ensures.value
    ∙ get_or_read s.current.items c.args.sector c.index_mut.result.now (omega (arith, c.requires, s.mapped.current_size)) c.index_mut.ensures.value None))

pub recount-requires-clause-dead_within : goal.recount-requires-clause-dead_within
recount-requires-clause-dead_within c =
    named_within c.args.self.now c.args.sector c.page-was.result _ c.deref_mut.ensures.value
    (the_was (goal.at.recount-requires-clause-dead_within c).After-page-was)

pub recount-requires-clause-counted : goal.recount-requires-clause-counted
recount-requires-clause-counted c =
    named_counted c.args.self.now c.args.sector c.page-was.result _ c.deref_mut.ensures.value
    (the_was (goal.at.recount-requires-clause-counted c).After-page-was)

-- the counts without that page
the_counts : (c : After-recount) → get_or c.args.self.now.current.items c.args.sector None ≡ c.page-was.result
    → Recounts c.args.self.now.live.items c.recount.new.counts (get_or c.args.self.now.current.items c.args.sector None) None
the_counts c was =
    subst (λ (o : Option PageAddr). Recounts c.args.self.now.live.items c.recount.new.counts o None) (sym was)
    (subst (λ (xs : List ℕ). Recounts xs c.recount.new.counts c.page-was.result None) c.deref_mut.ensures.value c.recount.ensures)

pub invariant_of-self : goal.invariant_of-self
invariant_of-self c =
    let s = c.args.self.now in
    let g = die_geometry_of s.die in
    let was = the_was (goal.at.invariant_of-self c).After-page-was in
    let counts = the_counts (goal.at.invariant_of-self c).After-recount was in
    let mapped = mapped-forget (page_bytes_of g) (blocks_of g) (sectors_of g)
    (block_of s.die) s.current.items s.live.items s.mapped c.args.sector c.recount.new.counts c.requires counts in
    let P : Option PageAddr → List ℕ → Type 0 =
    λ o xs. IsMapped (page_bytes_of g) (blocks_of g) (sectors_of g) (block_of s.die) (set s.current.items c.args.sector o) xs in
    record {
      page_sized = s.page_sized;
      mapped = subst (λ (o : Option PageAddr). P o (with_items s.live c.recount.new.counts).items) (sym (c.replace-entry.ensures.after ∙ c.none.ensures))
          (subst (λ (xs : List ℕ). P None xs) (sym (recounted s c.recount.new.counts (get_or s.current.items c.args.sector None) None counts)) mapped);
    }

pub returns-clause-answer : goal.returns-clause-answer
returns-clause-answer c =
    let was = the_was (goal.at.returns-clause-answer c).After-page-was in
    c.answer_of.ensures ∙ was-named c.args.self.now c.args.sector c.page-was.result c.requires (sym was)

pub returns-clause-sectors : goal.returns-clause-sectors
unfolding array_of
returns-clause-sectors c =
    let s = c.args.self.now in
    let n = page_bytes_of (die_geometry_of s.die) in
    ap (λ (o : Option PageAddr). sectors_in n (block_of s.die) (set s.current.items c.args.sector o)) (c.replace-entry.ensures.after ∙ c.none.ensures)
    ∙ sectors-set n (block_of s.die) s.current.items c.args.sector None

pub returns-clause-entries : goal.returns-clause-entries
unfolding entries_of
returns-clause-entries c =
    λ b low.
    let s = c.args.self.now in
    let g = die_geometry_of s.die in
    ap (λ (o : Option PageAddr). entries_in (page_bytes_of g) (set s.current.items c.args.sector o) b (block_of s.die b))
    (c.replace-entry.ensures.after ∙ c.none.ensures)
    ∙ entries-forget (page_bytes_of g) (blocks_of g) (sectors_of g) (block_of s.die) s.current.items s.live.items s.mapped c.args.sector b c.requires
