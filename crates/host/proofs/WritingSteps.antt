-- The parts of a write, one step after the other: blocks are tried in order, words are put in order, a page is counted.
use Rattle.std.proofs.Common.{◌≡◌, ℕ, zero, suc, ◌+◌, ◌-◌, ◌<◌, ◌≤◌, List, [], ◌∷◌, ◌++◌, length, None, Some, sym, refl, ap, ◌∙◌}
use Rattle.std.proofs.Common.{arith, append_assoc, length-append, Fits, w8}
use Rattle.std.proofs.{Math.ListN.get_or, Math.ListN.get_or-append, lemmas.List.get_or-append_right}
use Rattle.std.specs.List.{range_with_len}
use mathlib.Core.Logic.{dite}
use native.Mathlib.Decide.{ℕ_discrete}
use Rattle.geometry.specs.{Geometry.pages_of, Geometry.words_of, Geometry.page_bytes_of, Limits.Numbers, Words.word_of, declared.words.MapWord.MapWord}
use Rattle.flash_rule.specs.{declared.facts.Owned.Owned, declared.facts.Work.Work, declared.view.View.View, Views.owned_at, World.data_word}
use Rattle.flash_rule.specs.Plays.{CanPut, CanCount, IsSettled, SettledBut, words_in, next_page}
use Rattle.flash_rule.proofs.{Owning.some_same, PageSteps.words_none, PageSteps.words_here}
use Rattle.flash_table.specs.{declared.flash.Flash.Flash, declared.pass.Pass.Pass, declared.pass.OpenBlock.OpenBlock, Owning.owned_of, Owning.owned_list}
use Rattle.flash_table.specs.Flash.{IsPassOf, Denied, view_of, opened_of, geometry_of, device}
use Rattle.flash_table.proofs.PassResults.{owned_one}
use Rattle.host.specs.Filling.{Filled}

-- ---- the search for a free block
range_more : (a n : ℕ) → range_with_len a (n + 1) ≡ range_with_len a n ++ (a + n) ∷ []
range_more a n = (let e : n + 1 ≡ suc n = omega arith in ap (range_with_len a) e) ∙ by_suc n a where
  by_suc : (n a : ℕ) → range_with_len a (suc n) ≡ range_with_len a n ++ (a + n) ∷ []
  by_suc zero a = let e : a ≡ a + zero = omega arith in ap (λ k. k ∷ []) e
  by_suc (suc n) a = let there = by_suc n (a + 1) in let e : (a + 1) + n ≡ a + suc n = omega arith in
      ap (λ l. a ∷ l) (there ∙ ap (λ k. range_with_len (a + 1) n ++ k ∷ []) e)

-- all blocks below this one were found taken
pub record Tried (f : Flash) (v : View) (block : ℕ) (p : Pass) : Type 0 where
  pub pass : IsPassOf f p
  pub nothing : opened_of p ≡ None
  pub changed : view_of p ≡ record v { denied = v.denied ++ range_with_len 0 block }

pub tried_more : (f : Flash) (v : View) (block : ℕ) (p q : Pass) → Tried f v block p → Denied (view_of p) block (view_of q) (opened_of q)
    → IsPassOf f q → Tried f v (block + 1) q
tried_more f v block p q h told pass =
    let denied : (view_of p).denied ≡ v.denied ++ range_with_len 0 block = ap (λ (w : View). w.denied) h.changed in
    let more : (view_of p).denied ++ block ∷ [] ≡ v.denied ++ range_with_len 0 (block + 1) =
    ap (λ l. l ++ block ∷ []) denied
    ∙ (append_assoc v.denied (range_with_len 0 block) (block ∷ [])
    ∙ ap (λ l. v.denied ++ l) (sym (range_more 0 block ∙ (let e : 0 + block ≡ block = omega arith in ap (λ k. range_with_len 0 block ++ k ∷ []) e)))) in
    record { pass = pass; nothing = told.nothing; changed = told.changed ∙ (λ i. record (h.changed i) { denied = more i }) }

-- ---- the words of a page
pub owns_one : (p : Pass) (o : OpenBlock) → opened_of p ≡ Some o → (view_of p).owns ≡ owned_of o ∷ []
owns_one p o is = p.owns ∙ ap owned_list is

pub owned_here : (p : Pass) (o : OpenBlock) → opened_of p ≡ Some o → owned_at o.block (view_of p).owns ≡ Some (owned_of o)
owned_here p o is = ap (λ (l : List Owned). owned_at o.block l) (owns_one p o is) ∙ owned_one (owned_of o)

-- so many words of the value stand in the next page of the open block, and nothing else has changed
pub record Filling (f : Flash) (v : View) (o : OpenBlock) (value : List ℕ) (k : ℕ) (p : Pass) : Type 0 where
  pub pass : IsPassOf f p
  pub opened : opened_of p ≡ Some o
  pub changed : view_of p ≡ record v { work = (view_of p).work }
  pub settled : SettledBut (view_of p) o.block
  pub long : length (words_in (view_of p).work (owned_of o)) ≡ k
  pub words : (i : ℕ) → i < k → get_or (words_in (view_of p).work (owned_of o)) i 0 ≡ data_word value i

pub filling_none : (f : Flash) (p : Pass) (o : OpenBlock) (value : List ℕ) → IsPassOf f p → opened_of p ≡ Some o → IsSettled (view_of p)
    → Filling f (view_of p) o value 0 p
filling_none f p o value pass is settled =
    let none : words_in (view_of p).work (owned_of o) ≡ [] =
    words_none (view_of p).work (owned_of o) (λ x work here. settled x (owned_of o) work (ap (λ b. owned_at b (view_of p).owns) here ∙ owned_here p o is)) in
    record {
      pass = pass;
      opened = is;
      changed = refl;
      settled = λ x e work own _. settled x e work own;
      long = ap (length {A = ℕ}) none;
      words = λ i below. absurd (omega arith);
    }

pub filling_can : (f : Flash) (v : View) (o : OpenBlock) (value : List ℕ) (k : ℕ) (p : Pass) → Filling f v o value k p
    → o.written < pages_of (geometry_of f) → k ≤ words_of (geometry_of f) → CanPut (view_of p) (owned_of o)
filling_can f v o value k p h room low =
    let pages : (view_of p).numbers.pages ≡ (device f).pages = ap (λ (z : Numbers). z.pages) h.pass.numbers in
    let words : (view_of p).numbers.words ≡ (device f).words = ap (λ (z : Numbers). z.words) h.pass.numbers in
    let long = h.long in
    record { own = owned_here p o h.opened; opened = refl; room = omega arith; short = omega arith; settled = h.settled }

-- the work after one more word
abbrev pub put_work : OpenBlock → Pass → ℕ → Work
put_work o p word = record { page = next_page (owned_of o); words = words_in (view_of p).work (owned_of o) ++ word ∷ [] }

put_settled : (o : OpenBlock) (p q : Pass) (word : ℕ) → (view_of q).work ≡ Some (put_work o p word) → SettledBut (view_of q) o.block
put_settled o p q word now x e work own else = absurd (else (sym (ap (λ (y : Work). y.page.block) (some_same (put_work o p word) x (sym now ∙ work)))))

pub filling_more : (f : Flash) (v : View) (o : OpenBlock) (value : List ℕ) (k word : ℕ) (p q : Pass) → Filling f v o value k p → IsPassOf f q
    → opened_of q ≡ opened_of p
    → view_of q ≡ record (view_of p) { work = Some (put_work o p word) } → word ≡ data_word value k → Filling f v o value (k + 1) q
filling_more f v o value k word p q h pass opened told is =
    let before : List ℕ = words_in (view_of p).work (owned_of o) in
    let work : (view_of q).work ≡ Some (put_work o p word) = ap (λ (w : View). w.work) told in
    let now : words_in (view_of q).work (owned_of o) ≡ before ++ word ∷ [] =
    ap (λ d. words_in d (owned_of o)) work ∙ words_here (owned_of o) (before ++ word ∷ []) in
    let long = h.long in
    let longer : length (words_in (view_of q).work (owned_of o)) ≡ k + 1 = ap (length {A = ℕ}) now ∙ (length-append before (word ∷ []) ∙ (omega arith)) in
    record {
      pass = pass;
      opened = opened ∙ h.opened;
      changed = told ∙ (λ i. record (h.changed i) { work = sym work i });
      settled = put_settled o p q word work;
      long = longer;
      words = λ i below.
          ap (λ l. get_or l i 0) now
          ∙ dite (ℕ_discrete i k)
          (λ last. get_or-append_right before (word ∷ []) k i 0 h.long (omega arith)
          ∙ ((let e : i - k ≡ 0 = omega arith in ap (λ j. get_or (word ∷ []) j 0) e) ∙ (is ∙ ap (λ j. data_word value j) (sym last))))
          (λ earlier. get_or-append before (word ∷ []) 0 i (omega arith) ∙ h.words i (omega arith));
    }

pub word_is : (value : List ℕ) (i : ℕ) → data_word value i ≡ word_of value i
unfolding data_word
word_is value i = refl

-- ---- the page is counted
module _ (f : Flash) (v : View) (o : OpenBlock) (value : List ℕ) (s : ℕ) (p q : Pass) (h : Filling f v o value (words_of (geometry_of f)) p)
    (told : view_of q ≡ record (view_of p) { work = Some (put_work o p s) }) where
  before : List ℕ
  before = words_in (view_of p).work (owned_of o)

  words_same : v.numbers.words ≡ words_of (geometry_of f)
  words_same = ap (λ (w : View). w.numbers.words) (sym h.changed) ∙ ap (λ (z : Numbers). z.words) h.pass.numbers

  pub filled_can : opened_of q ≡ opened_of p → CanCount (view_of q) (owned_of o) (put_work o p s)
  unfolding before
  filled_can opened =
      let same = words_same in
      let theirs : (view_of q).numbers.words ≡ v.numbers.words = ap (λ (w : View). w.numbers.words) told ∙ ap (λ (w : View). w.numbers.words) h.changed in
      let long = h.long in
      record {
        own = owned_here q o (opened ∙ h.opened);
        opened = refl;
        is = ap (λ (w : View). w.work) told;
        page = refl;
        full = length-append before (s ∷ []) ∙ (omega arith);
      }

  pub filled : (w : View) → w
      ≡ record (view_of q) { programs = (view_of q).programs ++ next_page (owned_of o) ∷ []; owns = owned_of (record o { written = o.written + 1 }) ∷ [] }
      → length value ≡ page_bytes_of (geometry_of f) → ((k : ℕ) → Fits w8 (get_or value k 0)) → Filled v o s value (next_page (owned_of o)) w
  unfolding before
  filled w counted length_is bytes =
      let work : Work = put_work o p s in
      let programs : View → List MapWord = λ x. x.programs ++ next_page (owned_of o) ∷ [] in
      let owns : List Owned = owned_of (record o { written = o.written + 1 }) ∷ [] in
      let changed : w ≡ record v { work = Some work; programs = v.programs ++ next_page (owned_of o) ∷ []; owns = owns } =
      counted ∙ ((λ i. record (told i) { programs = programs (told i); owns = owns })
      ∙ (λ i. record (h.changed i) { work = Some work; programs = programs (h.changed i); owns = owns })) in
      let same = words_same in
      let theirs : w.numbers.words ≡ v.numbers.words = ap (λ (x : View). x.numbers.words) changed in
      record {
        work = work;
        next = refl;
        changed = changed;
        placeable = record {
          work = work;
          entry = owned_of (record o { written = o.written + 1 });
          is = ap (λ (x : View). x.work) changed;
          page = refl;
          own = ap (λ (x : View). owned_at o.block x.owns) changed ∙ owned_one (owned_of (record o { written = o.written + 1 }));
          counted = omega arith;
          whole = record { long = omega arith; bytes = λ k. let b = bytes k in omega arith };
          words = λ i below. get_or-append before (s ∷ []) 0 i (let long = h.long in omega arith) ∙ h.words i (omega arith);
          stamp = get_or-append_right before (s ∷ []) w.numbers.words w.numbers.words 0 (h.long ∙ (omega arith)) (omega arith)
              ∙ (let e : w.numbers.words - w.numbers.words ≡ 0 = omega arith in ap (λ j. get_or (s ∷ []) j 0) e);
        };
      }
