use Rattle.std.proofs.Common.{◌≡◌, ◌∙◌, ℕ, ◌+◌, ◌*◌, ◌<◌, List, length, get_or, sym, ap, refl, subst, arith, length-set}
use Rattle.std.specs.Vec.{with_items, vec_len}
use Rattle.std.proofs.{lemmas.List.get_or_read, lemmas.List.with_items_is, lemmas.Nat.same_from_place}
use Rattle.geometry.specs.Geometry.{blocks_of, pages_of, page_bytes_of}
use Rattle.die.specs.{Die.block_of, Die.ChangesBlock, Pages.Page, Pages.page_at, Pages.programmed, Storage.stored}
use Rattle.die.{specs.declared.die.Die.Die, specs.Storage.PutsSlot, specs.Storage.slot, proofs.Blocks.Adds}
use Rattle.die.proofs.Dies.{state_of, state_read, next_small, counted, sound-set, sound-counted, adds_page, changes_by_adding, pages_within, page-stored}
use Rattle.die.proofs.die.Die.copyback.Goals as goal
use Rattle.die.proofs.die.Die.copyback.Goals.{After-index_mut-2}

pub place_of-source-requires-clause-page : goal.place_of-source-requires-clause-page
place_of-source-requires-clause-page c =
    omega (arith, c.requires.source.programmed, pages_within c.args.self.now c.args.from.block c.requires.source.usable.within)

-- the page that is programmed isn't the one that is copied, which is programmed already
pub move_page-requires-clause-apart : goal.move_page-requires-clause-apart
move_page-requires-clause-apart c = λ e.
    let d = c.args.self.now in
    let page_low : c.args.from.page < pages_of d.geometry =
    omega (arith, c.requires.source.programmed, pages_within d c.args.from.block c.requires.source.usable.within) in
    let same = same_from_place c.args.from.block c.args.from.page c.args.to.block c.args.to.page (pages_of d.geometry) page_low c.requires.next.within
    (sym c.place_of-source.ensures.value ∙ (e ∙ c.place_of-place.ensures.value)) in
    omega (arith, same.1, c.requires.source.programmed, c.requires.next.next, ap (λ (b : ℕ). length (block_of d b).pages) same.0)

the_state : (c : After-index_mut-2) → c.index_mut-2.result.now ≡ state_of c.args.self.now c.args.to.block
the_state c = state_read c.args.self.now c.args.to.block c.index_mut-2.result.now c.requires.next.usable.within c.index_mut-2.ensures.value

pub overflow_add-index_mut : goal.overflow_add-index_mut
overflow_add-index_mut c =
    omega (arith, next_small c.args.self.now c.args.to c.requires.next (the_state (goal.at.overflow_add-index_mut c).After-index_mut-2))

-- the place holds what the source's holds, and the other places what they held
the_bytes : (c : After-index_mut-2) → ((with_items c.args.self.now.bytes c.move_page.new.bytes).items ≡ c.move_page.new.bytes)
    × PutsSlot (page_bytes_of c.args.self.now.geometry) c.args.self.now.bytes.items c.move_page.new.bytes c.place_of-place.result
    (slot (page_bytes_of c.args.self.now.geometry) c.args.self.now.bytes.items c.place_of-source.result)
the_bytes c =
    let d = c.args.self.now in
    let was = c.deref_mut.ensures.value in
    let sized : length c.move_page.new.bytes ≡ vec_len d.bytes = omega (arith, c.move_page.ensures.size, ap (λ (xs : List ℕ). length xs) was, d.bytes.ok.0) in
    let by_size = subst (λ (n : ℕ). PutsSlot n c.deref_mut.result.now c.move_page.new.bytes c.place_of-place.result
    (slot n c.deref_mut.result.now c.place_of-source.result)) c.page_bytes-page_bytes.ensures c.move_page.ensures in (
      with_items_is d.bytes c.move_page.new.bytes sized,
      subst (λ (xs : List ℕ). PutsSlot (page_bytes_of d.geometry) xs c.move_page.new.bytes c.place_of-place.result
          (slot (page_bytes_of d.geometry) xs c.place_of-source.result)) was by_size,
    )

pub invariant_of-self : goal.invariant_of-self
invariant_of-self c =
    let at_end = (goal.at.invariant_of-self c).After-index_mut-2 in
    let d = c.args.self.now in
    let s = c.index_mut-2.result.now in
    record {
      bytes_sized = ap (λ (xs : List ℕ). length xs) (the_bytes at_end).0 ∙ ((the_bytes at_end).1.size ∙ d.bytes_sized);
      stamps_sized = length-set d.stamps.items c.place_of-place.result _ ∙ d.stamps_sized;
      states_sized = length-set d.states.items c.args.to.block (counted s) ∙ d.states_sized;
      sound = sound-set d c.args.to.block (counted s) c.requires.next.usable.within (sound-counted d c.args.to s c.requires.next (the_state at_end));
    }

-- the page that is copied, as the storage has it
the_page : (c : After-index_mut-2)
    → (record {
      value = slot (page_bytes_of c.args.self.now.geometry) c.args.self.now.bytes.items c.place_of-source.result;
      stamp = c.index.result.now;
    }) ≡ page_at (page_bytes_of c.args.self.now.geometry) (block_of c.args.self.now c.args.from.block) c.args.from.page
unfolding stored
the_page c =
    let d = c.args.self.now in
    let n = page_bytes_of d.geometry in
    let page : ℕ → ℕ → Page = λ place stamp. record { value = slot n d.bytes.items place; stamp = stamp } in
    let stamp = get_or_read d.stamps.items c.place_of-source.result c.index.result.now
    (omega (arith, c.place_of-source.ensures.within, d.stamps_sized)) c.index.ensures 0 in
    let place : ℕ = c.args.from.block * pages_of d.geometry + c.args.from.page in
    ap (λ (k : ℕ). page c.place_of-source.result k) stamp
    ∙ (ap (λ (k : ℕ). page k (get_or d.stamps.items k 0)) c.place_of-source.ensures.value
    ∙ sym (page-stored d c.args.from.block c.args.from.page c.requires.source.programmed))

-- a page that is added, by the value of its stamp
changed_by : (old new : Die) (b p : ℕ) (value : List ℕ) (stamp shown : ℕ) → new.geometry ≡ old.geometry
    → Adds (page_bytes_of old.geometry) (pages_of old.geometry)
    (blocks_of old.geometry) old.bytes.items new.bytes.items old.stamps.items new.stamps.items old.states.items new.states.items b p
    (record { value = value; stamp = stamp }) → stamp ≡ shown
    → ChangesBlock old new b (programmed (block_of old b) (record { value = value; stamp = shown }))
changed_by old new b p value stamp shown same adds is =
    subst (λ (k : ℕ). ChangesBlock old new b (programmed (block_of old b) (record { value = value; stamp = k }))) is
    (changes_by_adding old new b p (record { value = value; stamp = stamp }) same adds)

pub returns-clause-changes : goal.returns-clause-changes
returns-clause-changes c =
    let at_end = (goal.at.returns-clause-changes c).After-index_mut-2 in
    let d = c.args.self.now in
    let value = slot (page_bytes_of d.geometry) d.bytes.items c.place_of-source.result in
    let b = the_bytes at_end in
    let puts = subst (λ (xs : List ℕ). PutsSlot (page_bytes_of d.geometry) d.bytes.items xs c.place_of-place.result value) (sym b.0) b.1 in
    rw (← the_page at_end)
    (changed_by d _ c.args.to.block c.args.to.page value _ c.index.result.now refl
    (adds_page d c.args.to c.place_of-place.result (record { value = value; stamp = _ })
    (with_items d.bytes c.move_page.new.bytes).items c.index_mut-2.result.now c.requires.next c.place_of-place.ensures.value puts (the_state at_end))
    (omega arith))
