use Rattle.std.proofs.Common.{◌≡◌, ◌≢◌, ◌∙◌, ℕ, List, length, get_or, set, Option, None, Some, sym, ap, subst, arith}
use Rattle.std.{specs.Vec.with_items, proofs.lemmas.List.with_items_is}
use Rattle.geometry.specs.{declared.page_addr.PageAddr.PageAddr, Geometry.blocks_of, Geometry.page_bytes_of, Geometry.sectors_of}
use Rattle.die.specs.Die.{geometry_of as die_geometry_of, block_of, IsNext}
use Rattle.ftl_one.specs.{Stock.Entry, Store.array_of, Store.entries_of, Store.erases_of, Store.retired_of}
use Rattle.ftl_one.specs.Entries.{Recounts, IsMapped, sectors_in, entries_in}
use Rattle.ftl_one.proofs.Stores.{programmed_page, next_of_block, count_small, named_counted, recounted, put-mapped, put-erases, put-retired}
use Rattle.ftl_one.proofs.Clearing.{page_of, sector_of-page, names_live, stamp_below, relocate-copied, relocate-dead, relocate-others, relocate-sectors}
use Rattle.ftl_one.proofs.store.Store.relocate.Goals as goal
use Rattle.ftl_one.proofs.store.Store.relocate.Goals.{After-next_page-to, After-recount}

pub stamp-sector-requires : goal.stamp-sector-requires
stamp-sector-requires c = programmed_page c.args.self.now c.args.source c.requires.source_block c.requires.source_usable c.requires.source_page

pub overflow_cast-sector : goal.overflow_cast-sector
overflow_cast-sector c =
    let s = c.args.self.now in
    omega (arith, stamp_below s c.args.source c.requires.source_block c.requires.source_page, c.stamp-sector.ensures, s.die.geometry.in_limits.sectors_high)

pub copy_page-requires-clause-source : goal.copy_page-requires-clause-source
copy_page-requires-clause-source c = programmed_page c.args.self.now c.args.source c.requires.source_block c.requires.source_usable c.requires.source_page

pub copy_page-requires-clause-next : goal.copy_page-requires-clause-next
copy_page-requires-clause-next c =
    next_of_block c.args.self.now c.next_page-to.result c.args.block c.requires.room c.next_page-to.ensures.block c.next_page-to.ensures.page

-- the page that is programmed is the block's next
the_next : (c : After-next_page-to) → IsNext c.args.self.now.die c.next_page-to.result
the_next c = next_of_block c.args.self.now c.next_page-to.result c.args.block c.requires.room c.next_page-to.ensures.block c.next_page-to.ensures.page

pub index_mut-requires : goal.index_mut-requires
index_mut-requires c =
    let s = c.args.self.now in
    omega (arith, stamp_below s c.args.source c.requires.source_block c.requires.source_page, c.stamp-sector.ensures, s.current.ok.0, s.mapped.current_size)

pub recount-requires-clause-counted : goal.recount-requires-clause-counted
recount-requires-clause-counted c =
    let s = c.args.self.now in
    let named = names_live s c.args.source c.requires.source_page c.requires.live in
    named_counted s (page_of s c.args.source).stamp (Some c.args.source) _ c.deref_mut-2.ensures.value named

pub recount-requires-clause-room : goal.recount-requires-clause-room
recount-requires-clause-room c =
    let s = c.args.self.now in
    let small = count_small s c.args.block c.requires.room.within in
    omega (
      arith,
      small,
      ap (λ (k : ℕ). get_or s.live.items k 0) c.next_page-to.ensures.block,
      ap (λ (xs : List ℕ). get_or xs c.next_page-to.result.block 0) c.deref_mut-2.ensures.value,
    )

-- the counts with the copy in place of the page
the_counts : (c : After-recount)
    → Recounts c.args.self.now.live.items c.recount.new.counts
    (get_or c.args.self.now.current.items (page_of c.args.self.now c.args.source).stamp None) (Some c.next_page-to.result)
the_counts c =
    let s = c.args.self.now in
    let named = names_live s c.args.source c.requires.source_page c.requires.live in
    subst (λ (o : Option PageAddr). Recounts s.live.items c.recount.new.counts o (Some c.next_page-to.result)) (sym named)
    (subst (λ (xs : List ℕ). Recounts xs c.recount.new.counts (Some c.args.source) (Some c.next_page-to.result)) c.deref_mut-2.ensures.value c.recount.ensures)

pub invariant_of-self : goal.invariant_of-self
invariant_of-self c =
    let s = c.args.self.now in
    let at_end = (goal.at.invariant_of-self c).After-recount in
    let next = the_next (goal.at.invariant_of-self c).After-next_page-to in
    let counts = the_counts at_end in
    let page = page_of s c.args.source in
    let die = c.copy_page.new.die in
    let g = die_geometry_of die in
    let at = c.next_page-to.result in
    let mapped = put-mapped s die at page c.recount.new.counts (stamp_below s c.args.source c.requires.source_block c.requires.source_page) next
    c.copy_page.ensures.changes counts in
    let P : ℕ → Option PageAddr → List ℕ → Type 0 =
    λ k o xs. IsMapped (page_bytes_of g) (blocks_of g) (sectors_of g) (block_of die) (set s.current.items k o) xs in
    let buffer : (with_items s.page c.copy_page.new.page).items ≡ c.copy_page.new.page =
    with_items_is s.page c.copy_page.new.page (omega (arith, c.copy_page.auto.page, c.deref_mut.ensures.len)) in
    record {
      page_sized = ap (λ (xs : List ℕ). length xs) buffer
          ∙ (c.copy_page.auto.page ∙ (ap (λ (xs : List ℕ). length xs) c.deref_mut.ensures.value
          ∙ (s.page_sized ∙ ap page_bytes_of (sym c.copy_page.ensures.changes.geometry))));
      mapped = subst (λ (o : Option PageAddr). P c.stamp-sector.result o (with_items s.live c.recount.new.counts).items) (sym c.of.ensures)
          (subst (λ (k : ℕ). P k (Some at) (with_items s.live c.recount.new.counts).items) (sym c.stamp-sector.ensures)
          (subst (λ (xs : List ℕ). P page.stamp (Some at) xs)
          (sym (recounted s c.recount.new.counts (get_or s.current.items page.stamp None) (Some at) counts)) mapped));
    }

pub returns : goal.returns
unfolding entries_of erases_of retired_of array_of
returns c =
    let s = c.args.self.now in
    let at_end = (goal.at.returns c).After-recount in
    let next = the_next (goal.at.returns c).After-next_page-to in
    let counts = the_counts at_end in
    let page = page_of s c.args.source in
    let die = c.copy_page.new.die in
    let at = c.next_page-to.result in
    let live = c.recount.new.counts in
    let low = stamp_below s c.args.source c.requires.source_block c.requires.source_page in
    let apart : c.args.source.block ≢ at.block = λ e. c.requires.apart (e ∙ c.next_page-to.ensures.block) in
    let by : ℕ → Option PageAddr → ℕ → List Entry = λ k o b. entries_in (page_bytes_of (die_geometry_of die)) (set s.current.items k o) b (block_of die b) in
    let e : (b : ℕ) → by c.stamp-sector.result c.of.result b ≡ by page.stamp (Some at) b = λ b.
    ap (λ (o : Option PageAddr). by c.stamp-sector.result o b) c.of.ensures ∙ ap (λ (k : ℕ). by k (Some at) b) c.stamp-sector.ensures in
    rw (← c.next_page-to.ensures.block, sector_of-page s c.args.source c.requires.source_page) (record {
      copied = e at.block ∙ relocate-copied s die c.args.source at live c.requires.source_block c.requires.source_page c.requires.live apart next
          c.copy_page.ensures.changes counts;
      dead = e c.args.source.block
          ∙ relocate-dead s die c.args.source at live c.requires.source_block c.requires.source_page c.requires.live apart next
          c.copy_page.ensures.changes counts;
      others = λ b first second inside. e b
          ∙ relocate-others s die c.args.source at live c.requires.source_block c.requires.source_page c.requires.live apart next
          c.copy_page.ensures.changes counts b first second inside;
      sectors = ap (λ (o : Option PageAddr).
          sectors_in (page_bytes_of (die_geometry_of die)) (block_of die) (set s.current.items c.stamp-sector.result o)) c.of.ensures
          ∙ (ap (λ (k : ℕ). sectors_in (page_bytes_of (die_geometry_of die)) (block_of die) (set s.current.items k (Some at))) c.stamp-sector.ensures
          ∙ relocate-sectors s die c.args.source at live c.requires.source_block c.requires.source_page c.requires.live apart next
          c.copy_page.ensures.changes counts);
      keeps = record {
        geometry = c.copy_page.ensures.changes.geometry;
        erases = put-erases s die at page live low next c.copy_page.ensures.changes counts;
        retired = put-retired s die at page live low next c.copy_page.ensures.changes counts;
      };
    })
