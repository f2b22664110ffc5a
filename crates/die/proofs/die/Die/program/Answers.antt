use Rattle.std.proofs.Common.{◌≡◌, ◌∙◌, ℕ, List, length, sym, ap, refl, subst, arith, rules, length-set}
use Rattle.std.{specs.Vec.with_items, specs.Vec.vec_len, proofs.lemmas.List.with_items_is, proofs.lemmas.List.take_all}
use Rattle.geometry.specs.Geometry.{page_bytes_of}
use Rattle.die.specs.{Pages.Page, Storage.PutsSlot}
use Rattle.die.proofs.Dies.{state_of, state_read, next_small, counted, sound-set, sound-counted, adds_page, changes_by_adding}
use Rattle.die.proofs.die.Die.program.Goals as goal
use Rattle.die.proofs.die.Die.program.Goals.{After-index_mut-2}

puts_same : (place : ℕ) (old new page bytes : List ℕ) → PutsSlot (length page) old new place page → page ≡ bytes → PutsSlot (length bytes) old new place bytes
puts_same place old new page bytes h e = subst (λ (xs : List ℕ). PutsSlot (length xs) old new place xs) e h

the_state : (c : After-index_mut-2) → c.index_mut-2.result.now ≡ state_of c.args.self.now c.args.at.block
the_state c = state_read c.args.self.now c.args.at.block c.index_mut-2.result.now c.requires.next.usable.within c.index_mut-2.ensures.value

pub overflow_add-index_mut : goal.overflow_add-index_mut
overflow_add-index_mut c =
    omega (arith, next_small c.args.self.now c.args.at c.requires.next (the_state (goal.at.overflow_add-index_mut c).After-index_mut-2))

-- the place holds the bytes, and the other places what they held
the_bytes : (c : After-index_mut-2) → ((with_items c.args.self.now.bytes c.put_page.new.bytes).items ≡ c.put_page.new.bytes)
    × PutsSlot (page_bytes_of c.args.self.now.geometry) c.args.self.now.bytes.items c.put_page.new.bytes c.place_of-place.result c.args.bytes.now
the_bytes c =
    let d = c.args.self.now in
    let was = c.deref_mut.ensures.value in
    let sized : length c.put_page.new.bytes ≡ vec_len d.bytes = omega (arith, c.put_page.ensures.size, ap (λ (xs : List ℕ). length xs) was, d.bytes.ok.0) in
    let by_size = subst (λ (n : ℕ). PutsSlot n c.deref_mut.result.now c.put_page.new.bytes c.place_of-place.result c.args.bytes.now) c.requires.size
    (puts_same c.place_of-place.result c.deref_mut.result.now c.put_page.new.bytes _ c.args.bytes.now c.put_page.ensures (search (rules, take_all))) in (
      with_items_is d.bytes c.put_page.new.bytes sized,
      subst (λ (xs : List ℕ). PutsSlot (page_bytes_of d.geometry) xs c.put_page.new.bytes c.place_of-place.result c.args.bytes.now) was by_size,
    )

pub invariant_of-self : goal.invariant_of-self
invariant_of-self c =
    let at_end = (goal.at.invariant_of-self c).After-index_mut-2 in
    let e = the_state at_end in
    let d = c.args.self.now in
    let b = the_bytes at_end in
    let s = c.index_mut-2.result.now in
    record {
      bytes_sized = ap (λ (xs : List ℕ). length xs) b.0 ∙ (b.1.size ∙ d.bytes_sized);
      stamps_sized = length-set d.stamps.items c.place_of-place.result c.args.stamp ∙ d.stamps_sized;
      states_sized = length-set d.states.items c.args.at.block (counted s) ∙ d.states_sized;
      sound = sound-set d c.args.at.block (counted s) c.requires.next.usable.within (sound-counted d c.args.at s c.requires.next e);
    }

pub returns-clause-changes : goal.returns-clause-changes
returns-clause-changes c =
    let at_end = (goal.at.returns-clause-changes c).After-index_mut-2 in
    let e = the_state at_end in
    let d = c.args.self.now in
    let b = the_bytes at_end in
    let page : Page = record { value = c.args.bytes.now; stamp = c.args.stamp } in
    let puts = subst (λ (xs : List ℕ). PutsSlot (page_bytes_of d.geometry) d.bytes.items xs c.place_of-place.result c.args.bytes.now) (sym b.0) b.1 in
    let adds = adds_page d c.args.at c.place_of-place.result page
    (with_items d.bytes c.put_page.new.bytes).items c.index_mut-2.result.now c.requires.next c.place_of-place.ensures.value puts e in
    changes_by_adding d _ c.args.at.block c.args.at.page page refl adds
