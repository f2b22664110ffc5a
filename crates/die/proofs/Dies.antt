-- What a die keeps true, and its blocks after a command, in the terms of its fields.
use Rattle.std.proofs.Common.{◌≡◌, ◌≢◌, inl, inr, map, eqb, ℕ, ◌+◌, ◌*◌, ◌^◌, ◌<◌, ◌≤◌, List, length, get_or, set, false, sym, ap, ◌∙◌, refl, arith, subst}
use Rattle.std.proofs.{Common.get_or-set_same, Common.get_or-set_other, lemmas.List.get_or_read, lemmas.Bool.cases_eq, lemmas.Bool.eqb-false}
use Rattle.std.specs.List.{range_with_len}
use Rattle.geometry.specs.declared.{geometry.Geometry.Geometry, page_addr.PageAddr.PageAddr}
use Rattle.geometry.specs.Geometry.{blocks_of, pages_of, page_bytes_of, endurance_of}
use Rattle.die.specs.{declared.die.BlockState.BlockState, declared.die.Die.Die, Die.block_of, Die.ChangesBlock, Die.IsUsable, Die.IsNext}
use Rattle.die.specs.Storage.{IsSound}
use Rattle.die.specs.{Pages.Page, Pages.Block, Pages.programmed, Pages.erased, Pages.page_at, Storage.stored, Storage.block_in, Storage.PutsSlot}
use Rattle.die.specs.Storage.{unused}
use Rattle.die.proofs.Blocks.{length-pages, page_at-stored, Adds, others-added, block-added, block_in-same}

-- the state that the die keeps of a block
abbrev pub state_of : Die → ℕ → BlockState
state_of d b = get_or d.states.items b unused

-- what an index into the states gives
pub state_read : (d : Die) (b : ℕ) (s : BlockState) → b < blocks_of d.geometry → s ≡ get_or d.states.items b s → s ≡ state_of d b
state_read d b s within is = get_or_read d.states.items b s (omega (arith, d.states_sized)) is unused

pub length-block : (d : Die) (b : ℕ) → length (block_of d b).pages ≡ (state_of d b).next
unfolding block_of
length-block d b = length-pages (page_bytes_of d.geometry) (pages_of d.geometry) d.bytes.items d.stamps.items d.states.items b

pub erases-block : (d : Die) (b : ℕ) → (block_of d b).erases ≡ (state_of d b).erases
unfolding block_of block_in
erases-block d b = refl

pub retired-block : (d : Die) (b : ℕ) → (block_of d b).retired ≡ (state_of d b).retired
unfolding block_of block_in
retired-block d b = refl

-- a block has no more pages than a block can have
pub pages_within : (d : Die) (b : ℕ) → b < blocks_of d.geometry → length (block_of d b).pages ≤ pages_of d.geometry
pages_within d b low = omega (arith, length-block d b, (d.sound b low).within)

-- a block that isn't retired has an erase left
pub erases_below : (d : Die) (b : ℕ) → b < blocks_of d.geometry → (block_of d b).retired ≡ false → (block_of d b).erases < endurance_of d.geometry
erases_below d b low usable = omega (arith, erases-block d b, (d.sound b low).usable (sym (retired-block d b) ∙ usable))

-- the value of a programmed page has the bytes of a page, and is what stands at its place
pub page-stored : (d : Die) (b p : ℕ) → p < length (block_of d b).pages
    → page_at (page_bytes_of d.geometry) (block_of d b) p ≡ stored (page_bytes_of d.geometry) d.bytes.items d.stamps.items (b * pages_of d.geometry + p)
unfolding block_of
page-stored d b p low =
    page_at-stored (page_bytes_of d.geometry) (pages_of d.geometry) d.bytes.items d.stamps.items d.states.items b p
    (omega (arith, length-pages (page_bytes_of d.geometry) (pages_of d.geometry) d.bytes.items d.stamps.items d.states.items b))

-- every block is sound once one block has a sound state
pub sound-set : (d : Die) (b : ℕ) (s : BlockState) → b < blocks_of d.geometry → IsSound (pages_of d.geometry) (endurance_of d.geometry) s → (c : ℕ)
    → c < blocks_of d.geometry → IsSound (pages_of d.geometry) (endurance_of d.geometry) (get_or (set d.states.items b s) c unused)
sound-set d b s within sound c low =
    let P : BlockState → Type 0 = λ t. IsSound (pages_of d.geometry) (endurance_of d.geometry) t in
    elim (cases_eq c b) [
      | inl e ↦ subst P (sym (ap (λ (k : ℕ). get_or (set d.states.items b s) k unused) e
          ∙ get_or-set_same d.states.items b s unused (omega (arith, d.states_sized)))) sound
      | inr apart ↦ subst P (sym (get_or-set_other d.states.items b c s unused apart)) (d.sound c low)
    ]

-- the state of a block that has one more page
abbrev pub counted : BlockState → BlockState
counted s = record s { next = s.next + 1 }

-- the next page of a usable block is the one that its state counts
pub next-state : (d : Die) (at : PageAddr) → IsNext d at → at.page ≡ (state_of d at.block).next
next-state d at is = is.next ∙ length-block d at.block

-- a page is counted without overflow
pub next_small : (d : Die) (at : PageAddr) {s : BlockState} → IsNext d at → s ≡ state_of d at.block → s.next + 1 < 2 ^ 32
next_small d at is e = omega (arith, ap (λ (t : BlockState). t.next) e, next-state d at is, is.within, d.geometry.in_limits.pages_high)

-- one more page may be counted
pub sound-counted : (d : Die) (at : PageAddr) (s : BlockState) → IsNext d at → s ≡ state_of d at.block
    → IsSound (pages_of d.geometry) (endurance_of d.geometry) (counted s)
sound-counted d at s is e =
    let old = d.sound at.block is.usable.within in
    let place = next-state d at is in
    let size = is.within in
    rw e (record { within = omega (arith, place, size); erased = old.erased; usable = old.usable })

-- a page that is put at its place and counted is added to its block
pub adds_page : (d : Die) (at : PageAddr) (place : ℕ) (page : Page) (bytes' : List ℕ) (s : BlockState)
    → IsNext d at → place ≡ at.block * pages_of d.geometry + at.page → PutsSlot (page_bytes_of d.geometry) d.bytes.items bytes' place page.value
    → s ≡ state_of d at.block
    → Adds (page_bytes_of d.geometry) (pages_of d.geometry) (blocks_of d.geometry) d.bytes.items bytes' d.stamps.items
    (set d.stamps.items place page.stamp) d.states.items (set d.states.items at.block (counted s)) at.block at.page page
adds_page d at place page bytes' s is e puts same =
    record {
      block = is.usable.within;
      next = next-state d at is;
      within = is.within;
      stamps_size = d.stamps_sized;
      states_size = d.states_sized;
      bytes_size = d.bytes_sized;
      counts = λ c low. (d.sound c low).within;
      bytes_after = subst (λ (k : ℕ). PutsSlot (page_bytes_of d.geometry) d.bytes.items bytes' k page.value) e puts;
      stamps_after = ap (λ (k : ℕ). set d.stamps.items k page.stamp) e;
      state_after = get_or-set_same d.states.items at.block (counted s) unused (omega (arith, is.usable.within, d.states_sized)) ∙ ap counted same;
      states_after = λ c apart. get_or-set_other d.states.items at.block c (counted s) unused apart;
    }

-- the blocks of the die after a page was added, where its geometry is as before
pub changes_by_adding : (old new : Die) (b p : ℕ) (page : Page) → new.geometry ≡ old.geometry
    → Adds (page_bytes_of old.geometry) (pages_of old.geometry)
    (blocks_of old.geometry) old.bytes.items new.bytes.items old.stamps.items new.stamps.items old.states.items new.states.items b p page
    → ChangesBlock old new b (programmed (block_of old b) page)
unfolding block_of
changes_by_adding old new b p page same adds =
    let g = old.geometry in
    let added = block-added (page_bytes_of g) (pages_of g) (blocks_of g) old.bytes.items new.bytes.items old.stamps.items new.stamps.items
    old.states.items new.states.items b p page adds in
    let others = others-added (page_bytes_of g) (pages_of g) (blocks_of g) old.bytes.items new.bytes.items old.stamps.items new.stamps.items
    old.states.items new.states.items b p page adds in
    record {
      changed = subst (λ (h : Geometry). block_in (page_bytes_of h) (pages_of h) new.bytes.items new.stamps.items new.states.items b
          ≡ programmed (block_in (page_bytes_of g) (pages_of g) old.bytes.items old.stamps.items old.states.items b) page) (sym same) added;
      others = λ c apart low. subst (λ (h : Geometry). block_in (page_bytes_of h) (pages_of h) new.bytes.items new.stamps.items new.states.items c
          ≡ block_in (page_bytes_of g) (pages_of g) old.bytes.items old.stamps.items old.states.items c) (sym same) (others c apart low);
      geometry = same;
    }

-- the state of a block after an erase command
abbrev pub wiped : ℕ → BlockState → BlockState
wiped endurance s = record { next = 0; erases = s.erases + 1; retired = eqb (s.erases + 1) endurance }

pub sound-wiped : (d : Die) (b : ℕ) (s : BlockState) → IsUsable d b → s ≡ state_of d b
    → IsSound (pages_of d.geometry) (endurance_of d.geometry) (wiped (endurance_of d.geometry) s)
sound-wiped d b s is e =
    let e' : s.erases ≡ (state_of d b).erases = ap (λ (t : BlockState). t.erases) e in
    let left = (d.sound b is.within).usable (sym (retired-block d b) ∙ is.not_retired) in
    record {
      within = omega arith;
      erased = omega (arith, left, e');
      usable = λ off. let apart = eqb-false (s.erases + 1) (endurance_of d.geometry) off in omega (arith, left, e', apart);
    }

-- the blocks of the die after one block's state was wiped
pub changes_by_wiping : (d : Die) (b : ℕ) (s : BlockState) → IsUsable d b → s ≡ state_of d b
    → (block_in (page_bytes_of d.geometry) (pages_of d.geometry) d.bytes.items d.stamps.items
    (set d.states.items b (wiped (endurance_of d.geometry) s)) b ≡ erased (endurance_of d.geometry) (block_of d b))
    × ((c : ℕ) → c ≢ b → block_in (page_bytes_of d.geometry) (pages_of d.geometry) d.bytes.items d.stamps.items
    (set d.states.items b (wiped (endurance_of d.geometry) s)) c ≡ block_of d c)
unfolding block_of block_in
changes_by_wiping d b s is e =
    let E = endurance_of d.geometry in
    let f : BlockState → Block = λ t. record {
      pages = map (λ p. stored (page_bytes_of d.geometry) d.bytes.items d.stamps.items (b * pages_of d.geometry + p)) (range_with_len 0 t.next);
      erases = t.erases;
      retired = t.retired;
    } in (
      ap f (get_or-set_same d.states.items b (wiped E s) unused (omega (arith, is.within, d.states_sized))) ∙ ap (λ (t : BlockState). f (wiped E t)) e,
      λ c apart. block_in-same (page_bytes_of d.geometry) (pages_of d.geometry) d.bytes.items d.bytes.items d.stamps.items d.stamps.items
          d.states.items (set d.states.items b (wiped E s)) c (get_or-set_other d.states.items b c (wiped E s) unused apart) (λ p low. refl),
    )
