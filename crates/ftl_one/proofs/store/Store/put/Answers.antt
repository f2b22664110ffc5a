use Rattle.std.proofs.Common.{◌≡◌, ◌∙◌, ℕ, List, get_or, set, Option, None, Some, sym, ap, subst, arith}
use Rattle.std.{specs.Vec.with_items, proofs.lemmas.List.get_or_read}
use Rattle.geometry.specs.{declared.page_addr.PageAddr.PageAddr, Geometry.blocks_of, Geometry.page_bytes_of, Geometry.sectors_of}
use Rattle.die.specs.{Die.geometry_of as die_geometry_of, Die.block_of, Die.IsNext, Pages.Page}
use Rattle.ftl_one.{specs.Stock.Entry, specs.Store.retired_of, proofs.Stores.put-others, proofs.Stores.put-erases, proofs.Stores.put-retired}
use Rattle.ftl_one.specs.{Entries.Recounts, Entries.IsMapped, Entries.sectors_in, Entries.entries_in, Store.array_of, Store.entries_of, Store.erases_of}
use Rattle.ftl_one.proofs.Stores.{next_of_block, count_small, named_within, named_counted, was-named, recounted, put-mapped, put-sectors, put-changed}
use Rattle.ftl_one.proofs.store.Store.put.Goals as goal
use Rattle.ftl_one.proofs.store.Store.put.Goals.{After-next_page-at, After-page-was, After-recount}

the_next : (c : After-next_page-at) → IsNext c.args.self.now.die c.next_page-at.result
the_next c = next_of_block c.args.self.now c.next_page-at.result c.args.block c.requires.room c.next_page-at.ensures.block c.next_page-at.ensures.page

pub program-requires-clause-next : goal.program-requires-clause-next
program-requires-clause-next c = the_next (goal.at.program-requires-clause-next c).After-next_page-at

-- the page that the map named
the_was : (c : After-page-was) → get_or c.args.self.now.current.items c.args.sector None ≡ c.page-was.result
the_was c =
    let s = c.args.self.now in
    sym (c.page-was.ensures ∙ (c.replace-entry.ensures.value
    ∙ get_or_read s.current.items c.args.sector c.index_mut.result.now
    (omega (arith, c.requires.sector, s.mapped.current_size)) c.index_mut.ensures.value None))

pub recount-requires-clause-dead_within : goal.recount-requires-clause-dead_within
recount-requires-clause-dead_within c =
    named_within c.args.self.now c.args.sector c.page-was.result _ c.deref_mut.ensures.value
    (the_was (goal.at.recount-requires-clause-dead_within c).After-page-was)

pub recount-requires-clause-counted : goal.recount-requires-clause-counted
recount-requires-clause-counted c =
    named_counted c.args.self.now c.args.sector c.page-was.result _ c.deref_mut.ensures.value
    (the_was (goal.at.recount-requires-clause-counted c).After-page-was)

pub recount-requires-clause-room : goal.recount-requires-clause-room
recount-requires-clause-room c =
    let s = c.args.self.now in
    let small = count_small s c.args.block c.requires.room.within in
    omega (
      arith,
      small,
      ap (λ (k : ℕ). get_or s.live.items k 0) c.next_page-at.ensures.block,
      ap (λ (xs : List ℕ). get_or xs c.next_page-at.result.block 0) c.deref_mut.ensures.value,
    )

-- the counts with the new page in place of that one
the_counts : (c : After-recount) → get_or c.args.self.now.current.items c.args.sector None ≡ c.page-was.result
    → Recounts c.args.self.now.live.items c.recount.new.counts (get_or c.args.self.now.current.items c.args.sector None) (Some c.next_page-at.result)
the_counts c was =
    subst (λ (o : Option PageAddr). Recounts c.args.self.now.live.items c.recount.new.counts o (Some c.next_page-at.result)) (sym was)
    (subst (λ (xs : List ℕ). Recounts xs c.recount.new.counts c.page-was.result (Some c.next_page-at.result)) c.deref_mut.ensures.value c.recount.ensures)

-- the page that is put
abbrev the_page : After-recount → Page
the_page c = record { value = c.args.bytes.now; stamp = c.args.sector }

pub invariant_of-self : goal.invariant_of-self
invariant_of-self c =
    let s = c.args.self.now in
    let at_end = (goal.at.invariant_of-self c).After-recount in
    let was = the_was (goal.at.invariant_of-self c).After-page-was in
    let next = the_next (goal.at.invariant_of-self c).After-next_page-at in
    let counts = the_counts at_end was in
    let g = die_geometry_of c.program.new.self in
    let at = c.next_page-at.result in
    let mapped = put-mapped s c.program.new.self at (the_page at_end) c.recount.new.counts c.requires.sector next c.program.ensures.changes counts in
    let P : Option PageAddr → List ℕ → Type 0 =
    λ o xs. IsMapped (page_bytes_of g) (blocks_of g) (sectors_of g) (block_of c.program.new.self) (set s.current.items c.args.sector o) xs in
    record {
      page_sized = s.page_sized ∙ ap page_bytes_of (sym c.program.ensures.changes.geometry);
      mapped = subst (λ (o : Option PageAddr). P o (with_items s.live c.recount.new.counts).items) (sym (c.replace-entry.ensures.after ∙ c.of.ensures))
          (subst (λ (xs : List ℕ). P (Some at) xs)
          (sym (recounted s c.recount.new.counts (get_or s.current.items c.args.sector None) (Some at) counts)) mapped);
    }

pub returns-clause-answer : goal.returns-clause-answer
returns-clause-answer c =
    let was = the_was (goal.at.returns-clause-answer c).After-page-was in
    c.answer_of.ensures ∙ was-named c.args.self.now c.args.sector c.page-was.result c.requires.sector (sym was)

pub returns-clause-sectors : goal.returns-clause-sectors
unfolding array_of
returns-clause-sectors c =
    let s = c.args.self.now in
    let at_end = (goal.at.returns-clause-sectors c).After-recount in
    let was = the_was (goal.at.returns-clause-sectors c).After-page-was in
    let next = the_next (goal.at.returns-clause-sectors c).After-next_page-at in
    let die = c.program.new.self in
    ap (λ (o : Option PageAddr). sectors_in (page_bytes_of (die_geometry_of die)) (block_of die) (set s.current.items c.args.sector o))
    (c.replace-entry.ensures.after ∙ c.of.ensures)
    ∙ put-sectors s die c.next_page-at.result (the_page at_end) c.recount.new.counts c.requires.sector next c.program.ensures.changes (the_counts at_end was)

pub returns-clause-puts : goal.returns-clause-puts
unfolding entries_of erases_of retired_of
returns-clause-puts c =
    let s = c.args.self.now in
    let at_end = (goal.at.returns-clause-puts c).After-recount in
    let was = the_was (goal.at.returns-clause-puts c).After-page-was in
    let next = the_next (goal.at.returns-clause-puts c).After-next_page-at in
    let die = c.program.new.self in
    let at = c.next_page-at.result in
    let counts = the_counts at_end was in
    let by : Option PageAddr → ℕ → List Entry =
    λ o b. entries_in (page_bytes_of (die_geometry_of die)) (set s.current.items c.args.sector o) b (block_of die b) in
    rw (← c.next_page-at.ensures.block) (record {
      changed = ap (λ (o : Option PageAddr). by o at.block) (c.replace-entry.ensures.after ∙ c.of.ensures)
          ∙ put-changed s die at (the_page at_end) c.recount.new.counts c.requires.sector next c.program.ensures.changes counts;
      others = λ b apart low. ap (λ (o : Option PageAddr). by o b) (c.replace-entry.ensures.after ∙ c.of.ensures)
          ∙ put-others s die at (the_page at_end) c.recount.new.counts c.requires.sector next c.program.ensures.changes counts b apart low;
      keeps = record {
        geometry = c.program.ensures.changes.geometry;
        erases = put-erases s die at (the_page at_end) c.recount.new.counts c.requires.sector next c.program.ensures.changes counts;
        retired = put-retired s die at (the_page at_end) c.recount.new.counts c.requires.sector next c.program.ensures.changes counts;
      };
    })
