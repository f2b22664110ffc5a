-- What a step's play makes of a pass, and of any seat with an open block; what a load and a take of a block's word make of the seat that takes it.
use Rattle.std.proofs.Common.{◌≡◌, ℕ, ◌+◌, ◌<◌, ◌∷◌, Option, Some, None, IfSome, IfNone, sym, ap, ◌∙◌, subst, arith, Bool, true, false, List, [], ◌++◌, refl}
use Rattle.std.specs.Prelude.{MatchOption}
use mathlib.Core.Option.{none}
use Rattle.atomic_table.specs.Table.{step}
use Rattle.geometry.specs.Limits.{Numbers}
use Rattle.geometry.specs.Words.{pin_index, FitsPin, pin_word, map_word, FitsMap, page_index}
use Rattle.geometry.specs.declared.words.PinWord.{PinWord}
use Rattle.geometry.specs.declared.words.TheConstants.{TAKEN, NEXT_PHASE, PAGE_WRITTEN, READER, UNMAPPED}
use Rattle.geometry.specs.declared.words.Phase.TheVariants.{Free}
use Rattle.geometry.proofs.WordBits.{pin_same}
use Rattle.flash_rule.specs.declared.view.View.{View}
use Rattle.flash_rule.specs.Plays.{Sitter, Tested, Took, take_told, test_told, Placed, CanPlace, CanCount, CanClose, write_told, new_told, trim_told}
use Rattle.flash_rule.specs.Plays.{count_told, close_told, Pinned, pin_told, get_told}
use Rattle.flash_table.specs.Owning.{owned_of, owned_list, closed_as, closed_list}
use Rattle.flash_table.specs.Taking.{fresh_block, FoundTaken, TookFree}
use Rattle.flash_table.proofs.Blocks.{stays_without}
use Rattle.flash_table.proofs.Permissions.{whose, IsSeatOf, slots_of}
use Rattle.geometry.specs.Geometry.{blocks_of, pages_of}
use Rattle.flash_rule.specs.declared.facts.Owned.{Owned}
use Rattle.flash_rule.specs.declared.facts.Work.{Work}
use Rattle.flash_rule.specs.declared.facts.Pin.TheVariants.{Candidate, Accepted}
use Rattle.flash_rule.specs.World.{data_word, Intact}
use Rattle.flash_rule.specs.Views.{is_pass, owned_at, with_owned, without}
use Rattle.std.specs.Bool.{MatchBool}
use Rattle.atomic_table.specs.declared.shared.Seat.{Seat}
use Rattle.geometry.specs.declared.geometry.Geometry.{Geometry}
use Rattle.geometry.specs.declared.words.MapWord.{MapWord}
use Rattle.geometry.specs.History.{Write, WriteNew, Trim}
use Rattle.flash_rule.proofs.Still.{pass_of}
use Rattle.flash_rule.proofs.Points.{eq_self}
use Rattle.flash_rule.proofs.Owning.{some_same}
use Rattle.flash_table.specs.declared.flash.Flash.{Flash}
use Rattle.flash_table.specs.declared.pass.Pass.{Pass}
use Rattle.flash_table.specs.declared.pass.OpenBlock.{OpenBlock}
use Rattle.flash_table.specs.GivingUp.{closed_pass, left_closed}
use Rattle.flash_table.specs.Steps.{CanGiveUp, IsFilled}
use Rattle.flash_table.specs.Flash.{IsPassOf, Strayed, view_of, device}

-- the word is that of a free block in this generation, or of no free block
abbrev pub IsFreeAt : ℕ → ℕ → Type 0
IsFreeAt n k = (state : PinWord) × FitsPin state × (pin_word state ≡ n) × (state.phase ≡ Free) × (state.generation ≡ k)

abbrev pub IsTaken : ℕ → Type 0
IsTaken n = (state : PinWord) → FitsPin state → pin_word state ≡ n → ¬ (state.phase ≡ Free)

module _ {z : Numbers} (v : View) (numbers : v.numbers ≡ z) (b : ℕ) where
  below : b < z.blocks → b < v.numbers.blocks
  below low = subst (λ (y : Numbers). b < y.blocks) (sym numbers) low

  here : {word : ℕ} → word ≡ pin_index z b → word ≡ pin_index v.numbers b
  here at = at ∙ ap (λ y. pin_index y b) (sym numbers)

module _ {z : Numbers} {me : Sitter} (numbers : me.0.numbers ≡ z) {n : ℕ} {after : Sitter} {word : ℕ} (b : ℕ) (low : b < z.blocks)
    (at : word ≡ pin_index z b) where
  -- a load of a free block's word changes nothing, and another one records that the block is taken
  pub tested_free : {k : ℕ} → test_told (step 0 word 0 0 none) me n after → IsFreeAt n k → after.0 ≡ me.0
  tested_free told t =
      let h : Tested me.0 b n after.0 = told.1 b (below me.0 numbers b low) (here me.0 numbers b at) in
      h.free (ap (λ (p : PinWord). p.phase) (pin_same h.state t.0 h.fits t.1 (sym h.found ∙ sym t.2)) ∙ t.3)

  pub tested_taken : test_told (step 0 word 0 0 none) me n after → IsTaken n → FoundTaken me.0 b after.0
  tested_taken told not = let h = told.1 b (below me.0 numbers b low) (here me.0 numbers b at) in h.denied (not h.state h.fits (sym h.found))

  -- so does a take, which makes a free block the seat's
  took_free : (k : ℕ) → take_told (step 0 word TAKEN 0 none) me n after → IsFreeAt n k → TookFree me.0 b k after.0
  took_free k told t =
      let h : Took me.0 b n after.0 = told.1 b (below me.0 numbers b low) (here me.0 numbers b at) in
      let same : h.state ≡ t.0 = pin_same h.state t.0 h.fits t.1 (sym h.found ∙ sym t.2) in
      let free : h.state.phase ≡ Free = ap (λ (p : PinWord). p.phase) same ∙ t.3 in
      let generation : h.state.generation ≡ k = ap (λ (p : PinWord). p.generation) same ∙ t.4 in
      record {
        young = (let r = h.young in omega arith);
        fresh = h.fresh free;
        changed = h.free free
            ∙ (λ i. record me.0 {
              taken = me.0.taken + 1;
              owns = owned_of (fresh_block b (generation i)) ∷ stays_without b me.0.owns (h.fresh free) i;
            });
      }

  took_taken : take_told (step 0 word TAKEN 0 none) me n after → IsTaken n → FoundTaken me.0 b after.0
  took_taken told not = let h = told.1 b (below me.0 numbers b low) (here me.0 numbers b at) in h.denied (not h.state h.fits (sym h.found))

  -- what a take records of a seat that knew what this view knows, by what the word says
  pub took_by : {v : View} → me.0 ≡ v → take_told (step 0 word TAKEN 0 none) me n after → (r : Option ℕ) → IfSome r (IsFreeAt n) → IfNone r (IsTaken n)
      → MatchOption r (FoundTaken v b after.0) (λ k. TookFree v b k after.0)
  took_by same told (Some k) free taken = subst (λ (v : View). TookFree v b k after.0) same (took_free k told free)
  took_by same told None free taken = subst (λ (v : View). FoundTaken v b after.0) same (took_taken told taken)

pub stays_pass : {f : Flash} {p q : Pass} → IsPassOf f p → q.seat.table_id ≡ p.seat.table_id → whose (view_of q) ≡ whose (view_of p) → IsPassOf f q
stays_pass h table same = record { table = table ∙ h.table; role = ap (λ w. is_pass w.0) same ∙ h.role; numbers = ap (λ w. w.1) same ∙ h.numbers }

pub without_one : (o : Owned) → without o.block (o ∷ []) ≡ []
without_one o = rw (eq_self o.block) refl

pub owned_one : (o : Owned) → owned_at o.block (o ∷ []) ≡ Some o
owned_one o = rw (eq_self o.block) refl

-- what follows of a test's two outcomes
pub by_outcome : (b : Bool) (P Q R S : Type 0) → (P → R) → (Q → S) → MatchBool b P Q → MatchBool b R S
by_outcome true P Q R S f g h = f h
by_outcome false P Q R S f g h = g h

pub same_block : {a b : OpenBlock} {x : Option OpenBlock} → x ≡ Some a → x ≡ Some b → a ≡ b
same_block {a} {b} p q = some_same a b (sym p ∙ q)

-- a place at which one block's next page begins, where another name of that block is asked for
pub starts_same : (z : Numbers) (start : ℕ) {a b : OpenBlock} {x : Option OpenBlock} → start ≡ page_index z a.block a.written → x ≡ Some a
    → x ≡ Some b → start ≡ page_index z b.block b.written
starts_same z start at p q = at ∙ ap (λ (o : OpenBlock). page_index z o.block o.written) (same_block p q)

-- ---- what is asked of the open block, of the block that is found there
module _ (g : Geometry) (v : View) {opened : Option OpenBlock} {o : OpenBlock} (is : opened ≡ Some o) where
  pub count_can : IsFilled g v opened → (x : Work) × CanCount v (owned_of o) x × (o.written < pages_of g) × (o.block < blocks_of g)
  count_can t = let P : OpenBlock → Type 0 = λ y. (x : Work) × CanCount v (owned_of y) x × (y.written < pages_of g) × (y.block < blocks_of g) in
      subst P (same_block t.2 is) (t.1, t.3, t.4, t.5)

  pub close_can : CanGiveUp g v opened → CanClose v (owned_of o) × (o.block < blocks_of g)
  close_can t = let P : OpenBlock → Type 0 = λ x. CanClose v (owned_of x) × (x.block < blocks_of g) in subst P (same_block t.1 is) (t.2, t.3)

-- ---- what a step on it makes of the seat of a pass or a broom
module _ {f : Flash} {x : Seat (Unit {0}) View} (h : IsSeatOf f x) {after : Sitter} {word : ℕ} (o : OpenBlock) where
  pub count_view : (w : Work) → CanCount x.me.0 (owned_of o) w → word ≡ pin_index (device f) o.block
      → count_told (step (slots_of f) word PAGE_WRITTEN 0 none) x.me 0 after
      → after.0 ≡ record x.me.0 {
        programs = x.me.0.programs ++ w.page ∷ [];
        owns = with_owned (owned_of (record o { written = o.written + 1 })) x.me.0.owns;
      }
  count_view w can at told = told.1 (owned_of o) w can (at ∙ ap (λ y. pin_index y o.block) (sym h.numbers))

  pub close_view : CanClose x.me.0 (owned_of o) → word ≡ pin_index (device f) o.block
      → close_told (step (slots_of f) word NEXT_PHASE 0 none) x.me 0 after → after.0 ≡ left_closed x.me.0 o
  close_view can at told = told.1 (owned_of o) can (at ∙ ap (λ y. pin_index y o.block) (sym h.numbers))

-- ---- a pass owns no other block
module _ (p : Pass) (o : OpenBlock) (is : p.opened ≡ Some o) where
  alone : without o.block (view_of p).owns ≡ []
  alone = ap (λ (l : List Owned). without o.block l) (p.owns ∙ ap owned_list is) ∙ without_one (owned_of o)

  pub pass_counted : (w : View) (page : MapWord)
      → w ≡ record (view_of p) {
        programs = (view_of p).programs ++ page ∷ [];
        owns = with_owned (owned_of (record o { written = o.written + 1 })) (view_of p).owns;
      }
      → w ≡ record (view_of p) { programs = (view_of p).programs ++ page ∷ []; owns = owned_of (record o { written = o.written + 1 }) ∷ [] }
  pass_counted w page changed =
      changed ∙ ap (λ (l : List Owned).
      record (view_of p) { programs = (view_of p).programs ++ page ∷ []; owns = owned_of (record o { written = o.written + 1 }) ∷ l }) alone

  pub pass_closed : (w : View) → w ≡ left_closed (view_of p) o → w ≡ closed_pass (view_of p) p.opened
  pass_closed w changed =
      let closed : closed_as o ∷ [] ≡ closed_list p.opened = ap closed_list (sym is) in
      changed ∙ (λ i. record (view_of p) { owns = alone i; work = None; ceded = (view_of p).ceded ++ closed i })

-- ---- what a pin records, by what its word says
module _ {v w : View} {m : MapWord} {value : List ℕ} {n : ℕ} (told : Pinned v m value n w) where
  pub pin_yes : (state : PinWord) × FitsPin state × (pin_word state ≡ n) × Intact state m.generation → w ≡ record v { pin = Accepted m value }
  pin_yes t =
      let same : told.state ≡ t.0 = pin_same told.state t.0 told.fits t.1 (sym told.found ∙ sym t.2) in
      let a = told.accepted (subst (λ (s : PinWord). Intact s m.generation) (sym same) t.3) in
      told.changed ∙ (λ i. record v { pin = a.0 i; known = a.1 i })

  pub pin_no : ((state : PinWord) → FitsPin state → pin_word state ≡ n → ¬ Intact state m.generation) → Strayed v m.block w
  pin_no not =
      let a = told.stray (not told.state told.fits (sym told.found)) in
      record { changed = told.changed ∙ (λ i. record v { pin = a.0 i; known = w.known }); rises = a.1; bounded = told.bounded }

-- ---- what a step makes of a pass
module _ {f : Flash} {p : Pass} (h : IsPassOf f p) {n : ℕ} {after : Sitter} where
  -- ---- place
  pub trim_changed : (s : ℕ) → trim_told (step (slots_of f) s 0 0 none) p.seat.me n after → (t : ℕ) × Placed (view_of p) (Trim t s) s n after.0
  trim_changed s told = let t = pass_of (view_of p).role h.role in (t.0, told.1 t.0 t.1)

  pub write_changed : (s word : ℕ) (m : MapWord) → word ≡ map_word m → FitsMap m → (value : List ℕ) × CanPlace (view_of p) s m value
      → write_told (step (slots_of f) s word 0 none) p.seat.me n after
      → (t : ℕ) × (value : List ℕ) × Placed (view_of p) (Write t s value) s n after.0
  write_changed s word m packed fits can told = let t = pass_of (view_of p).role h.role in (t.0, can.0, told.1 t.0 m can.0 t.1 packed fits can.1)

  pub new_changed : (s word : ℕ) (m : MapWord) → word ≡ map_word m → FitsMap m → (value : List ℕ) × CanPlace (view_of p) s m value
      → new_told (step (slots_of f) s UNMAPPED word none) p.seat.me n after
      → (t : ℕ) × (value : List ℕ) × Placed (view_of p) (WriteNew t s value) s n after.0
  new_changed s word m packed fits can told = let t = pass_of (view_of p).role h.role in (t.0, can.0, told.1 t.0 m can.0 t.1 refl packed fits can.1)

  -- ---- pin
  pub pin_pinned : (word : ℕ) (m : MapWord) (value : List ℕ) → (view_of p).pin ≡ Candidate m value → word ≡ pin_index (device f) m.block
      → pin_told (step (slots_of f) word READER 0 none) p.seat.me n after → Pinned (view_of p) m value n after.0
  pin_pinned word m value pin at told = told.1 m value pin (at ∙ ap (λ y. pin_index y m.block) (sym h.numbers))

  pub get_value : (word i : ℕ) (m : MapWord) (value : List ℕ) → (view_of p).pin ≡ Accepted m value → i < (device f).words
      → word ≡ page_index (device f) m.block m.page + i → get_told (step (slots_of f) word 0 0 none) p.seat.me n after → n ≡ data_word value i
  get_value word i m value pin low at told = let words : (view_of p).numbers.words ≡ (device f).words = ap (λ (y : Numbers). y.words) h.numbers in
      told.1 m value i pin (omega arith) (at ∙ ap (λ y. page_index y m.block m.page + i) (sym h.numbers))
