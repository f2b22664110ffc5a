-- The second part of a survey: the sectors are looked at, one after the other, and the live pages of each block are counted.
use Rattle.std.proofs.Common.{◌≡◌, ◌≢◌, ℕ, zero, suc, ◌+◌, ◌<◌, eq-eqb, ne_eqb, false, true, cond, All, List, [], ◌∷◌, ◌++◌, length, map, Option, None}
use Rattle.std.proofs.Common.{Some, IfSome, sym, refl, ap, ◌∙◌, subst, arith, append_assoc, append-nil, length-append, set, get_or, replicate, get_or-set_same}
use Rattle.std.proofs.Common.{get_or-set_other}
use Rattle.std.specs.List.{enumerate_from, count_by}
use Rattle.std.proofs.lemmas.List.{map-append, length-map, get_or-map, get_or_past, Sums.sum_by_push}
use Rattle.std.proofs.lemmas.List.{Elements.All-nil, Elements.All-push, FromFn.fill_by_all}
use mathlib.Core.Logic.{dite}
use native.Mathlib.Decide.{ℕ_discrete}
use Rattle.geometry.specs.{History.Begins, Limits.Numbers, Words.FitsMap, Words.map_word}
use Rattle.geometry.specs.declared.words.{MapWord.MapWord, PinWord.PinWord}
use Rattle.geometry.proofs.{Histories.Begins-refl, Histories.Begins-trans, WordBits.map_same}
use Rattle.flash_rule.specs.{declared.view.View.View, World.sector_word, Views.AreOfHosts, BroomPlays.Named}
use Rattle.flash_rule.proofs.Owning.{none_some}
use Rattle.flash_table.specs.declared.{flash.Flash.Flash, broom_seat.BroomBlocks.BroomBlocks, broom_seat.BroomSeat.BroomSeat}
use Rattle.flash_table.specs.Flash.{IsBroomOf, broom_view, own_blocks}
use Rattle.broom.specs.{Survey.looks_of, Survey.lies_in, Survey.generation_in, Survey.live_pages, Survey.counts_of, Survey.Survey, Surveying.PagesCounted}
use Rattle.broom.proofs.Loading.{enumerate_more}

-- ---- counts
pub generation_at : (states : List PinWord) (b : ℕ) (d : PinWord) → b < length states → generation_in states b ≡ (get_or states b d).generation
generation_at states b d low = get_or-map (λ (p : PinWord). p.generation) states b d 0 low

-- For each block so many of these pages lie in it, in its generation as loaded
abbrev pub Counts : List PinWord → List (Option MapWord) → List ℕ → Type 0
Counts states pages counts = (b : ℕ) → b < length states → get_or counts b 0 ≡ count_by (lies_in b (generation_in states b)) pages

pub counts_none : (states : List PinWord) (counts : List ℕ) (n : ℕ) → counts ≡ replicate n 0 → Counts states [] counts
counts_none states counts n is b low = ap (λ (l : List ℕ). get_or l b 0) is ∙ zeros n b where
  zeros : (n b : ℕ) → ◌≡◌ {A = ℕ} (get_or (replicate n 0) b 0) 0
  zeros zero b = get_or_past [] b 0 (omega arith)
  zeros (suc n) zero = refl
  zeros (suc n) (suc b) = zeros n b

pub counts_empty : (states : List PinWord) (pages : List (Option MapWord)) (counts : List ℕ) → Counts states pages counts
    → Counts states (pages ++ None ∷ []) counts
counts_empty states pages counts h b low =
    let more = sum_by_push (λ o. cond (lies_in b (generation_in states b) o) 1 0) pages None in h b low ∙ ((omega arith) ∙ sym more)

pub counts_other : (states : List PinWord) (pages : List (Option MapWord)) (counts : List ℕ) (m : MapWord) → Counts states pages counts
    → ¬ (generation_in states m.block ≡ m.generation) → Counts states (pages ++ Some m ∷ []) counts
counts_other states pages counts m h not b low =
    let more = sum_by_push (λ o. cond (lies_in b (generation_in states b) o) 1 0) pages (Some m) in
    let outside : lies_in b (generation_in states b) (Some m) ≡ false =
    dite (ℕ_discrete m.block b)
    (λ here. let apart : m.generation ≢ generation_in states b = λ e. not (ap (generation_in states) here ∙ sym e) in
    rw (eq-eqb m.block b here) (rw (ne_eqb m.generation (generation_in states b) apart) refl))
    (λ else. rw (ne_eqb m.block b else) refl) in
    let nothing : cond {A = ℕ} (lies_in b (generation_in states b) (Some m)) 1 0 ≡ 0 = ap (λ t. cond {A = ℕ} t 1 0) outside in
    h b low ∙ ((omega arith) ∙ sym more)

pub counts_live : (states : List PinWord) (pages : List (Option MapWord)) (counts : List ℕ) (m : MapWord) → Counts states pages counts
    → generation_in states m.block ≡ m.generation → m.block < length counts
    → Counts states (pages ++ Some m ∷ []) (set counts m.block (get_or counts m.block 0 + 1))
counts_live states pages counts m h same within b low =
    let more = sum_by_push (λ o. cond (lies_in b (generation_in states b) o) 1 0) pages (Some m) in
    dite (ℕ_discrete m.block b)
    (λ here.
    let inside : lies_in b (generation_in states b) (Some m) ≡ true =
    rw (eq-eqb m.block b here) (rw (eq-eqb m.generation (generation_in states b) (sym same ∙ ap (generation_in states) here)) refl) in
    let one : cond {A = ℕ} (lies_in b (generation_in states b) (Some m)) 1 0 ≡ 1 = ap (λ t. cond {A = ℕ} t 1 0) inside in
    let set_here : get_or (set counts m.block (get_or counts m.block 0 + 1)) m.block 0 ≡ get_or counts m.block 0 + 1 =
    get_or-set_same counts m.block (get_or counts m.block 0 + 1) 0 within in
    let before = h b low in
    ap (λ k. get_or (set counts m.block (get_or counts m.block 0 + 1)) k 0) (sym here)
    ∙ (set_here ∙ (ap (λ k. get_or counts k 0 + 1) here ∙ ((omega arith) ∙ sym more))))
    (λ else.
    let outside : lies_in b (generation_in states b) (Some m) ≡ false = rw (ne_eqb m.block b else) refl in
    let nothing : cond {A = ℕ} (lies_in b (generation_in states b) (Some m)) 1 0 ≡ 0 = ap (λ t. cond {A = ℕ} t 1 0) outside in
    let apart : b ≢ m.block = λ e. else (sym e) in
    get_or-set_other counts m.block b (get_or counts m.block 0 + 1) 0 apart ∙ (h b low ∙ ((omega arith) ∙ sym more)))

pub counts_all : (x : Survey) (counts : List ℕ) → length counts ≡ length x.states → Counts x.states x.pages counts → counts ≡ counts_of x
counts_all x counts long h = fill_by_all (live_pages x) counts (length x.states) 0 long h

-- ---- one sector more is looked at
-- All sectors below this one were looked at in order, with these pages found, and nothing else has changed. So many of them lie in each block
pub record CountedTo (f : Flash) (v : View) (x : BroomBlocks) (states : List PinWord) (k : ℕ) (s : BroomSeat) (counts : List ℕ) : Type 0 where
  pub pages : List (Option MapWord)
  pub long : length pages ≡ k
  pub fits : All (λ page. IfSome page FitsMap) pages
  pub seat : IsBroomOf f s
  pub blocks : own_blocks s ≡ x
  pub changed : broom_view s ≡ record v { seen = (broom_view s).seen; named = v.named ++ looks_of pages }
  pub later : Begins v.seen (broom_view s).seen
  pub callers : AreOfHosts v.numbers (broom_view s).seen
  pub counted : Counts states pages counts

pub counted_none : (f : Flash) (s : BroomSeat) (states : List PinWord) (counts : List ℕ) (n : ℕ) → IsBroomOf f s
    → AreOfHosts (broom_view s).numbers (broom_view s).seen → counts ≡ replicate n 0
    → CountedTo f (broom_view s) (own_blocks s) states 0 s counts
counted_none f s states counts n seat callers zeros =
    record {
      pages = [];
      long = refl;
      fits = All-nil (λ page. IfSome page FitsMap);
      seat = seat;
      blocks = refl;
      changed = λ i. record (broom_view s) { named = sym (append-nil (broom_view s).named) i };
      later = Begins-refl (broom_view s).seen;
      callers = callers;
      counted = counts_none states counts n zeros;
    }

-- what a look changes where no page is being relocated
pub named_changes : (v w : View) (s n : ℕ) → v.source ≡ None → Named v s n w → w ≡ record v { seen = w.seen; named = v.named ++ (s, n) ∷ [] }
named_changes v w s n none h =
    let stay = h.others (λ x is. absurd (none_some x (sym none ∙ is))) in
    h.changed ∙ (λ i. record v { seen = w.seen; named = v.named ++ (s, n) ∷ []; source = stay.0 i; cleared = stay.1 i })

pub counted_more : (f : Flash) (v : View) (x : BroomBlocks) (states : List PinWord) (k : ℕ) (s t : BroomSeat) (counts now : List ℕ) (page : Option MapWord)
    → v.source ≡ None → (h : CountedTo f v x states k s counts) → IsBroomOf f t → own_blocks t ≡ own_blocks s → IfSome page FitsMap
    → Named (broom_view s) k (sector_word page) (broom_view t)
    → Counts states (h.pages ++ page ∷ []) now → CountedTo f v x states (k + 1) t now
counted_more f v x states k s t counts now page none h seat blocks fits told counted =
    let still : (broom_view s).source ≡ None = ap (λ (w : View). w.source) h.changed ∙ none in
    let long : length (map sector_word h.pages) ≡ k = length-map h.pages sector_word ∙ h.long in
    let looks : looks_of h.pages ++ (k, sector_word page) ∷ [] ≡ looks_of (h.pages ++ page ∷ []) =
    sym (enumerate_more 0 k (map sector_word h.pages) (sector_word page) long
    ∙ (let e : 0 + k ≡ k = omega arith in ap (λ j. looks_of h.pages ++ (j, sector_word page) ∷ []) e))
    ∙ ap (enumerate_from 0) (sym (map-append sector_word h.pages (page ∷ []))) in
    let all : (broom_view s).named ++ (k, sector_word page) ∷ [] ≡ v.named ++ looks_of (h.pages ++ page ∷ []) =
    ap (λ (w : View). w.named ++ (k, sector_word page) ∷ []) h.changed
    ∙ (append_assoc v.named (looks_of h.pages) ((k, sector_word page) ∷ []) ∙ ap (λ l. v.named ++ l) looks) in
    let numbers : (broom_view s).numbers ≡ v.numbers = ap (λ (w : View). w.numbers) h.changed in
    record {
      pages = h.pages ++ page ∷ [];
      long = length-append h.pages (page ∷ []) ∙ (let e = h.long in omega arith);
      fits = All-push (λ page. IfSome page FitsMap) h.pages page h.fits fits;
      seat = seat;
      blocks = blocks ∙ h.blocks;
      changed = named_changes (broom_view s) (broom_view t) k (sector_word page) still told
          ∙ (λ i. record (h.changed i) { seen = (broom_view t).seen; named = all i });
      later = Begins-trans v.seen (broom_view s).seen (broom_view t).seen h.later told.later;
      callers = subst (λ (z : Numbers). AreOfHosts z (broom_view t).seen) numbers told.callers;
      counted = counted;
    }

pub counted_all : (f : Flash) (v : View) (x : BroomBlocks) (states : List PinWord) (k : ℕ) (s : BroomSeat) (counts : List ℕ)
    → CountedTo f v x states k s counts → k ≡ v.numbers.sectors → length counts ≡ length states → PagesCounted v states counts (broom_view s)
counted_all f v x states k s counts h all long =
    record {
      pages = h.pages;
      long = h.long ∙ all;
      fits = h.fits;
      changed = h.changed;
      later = h.later;
      callers = h.callers;
      counted = counts_all (record { states = states; pages = h.pages }) counts long h.counted;
    }

-- ---- what a look found
-- a page that was found is one of this device
pub look_within : (v w : View) (s : ℕ) (m : MapWord) → FitsMap m → Named v s (map_word m) w → (m.block < v.numbers.blocks) × (m.page < v.numbers.pages)
look_within v w s m fits h =
    let t = h.page (λ e. absurd (omega arith)) in
    let same : t.0 ≡ m = map_same t.0 m t.3 fits (sym t.2) in
    let P : MapWord → Type 0 = λ k. (k.block < v.numbers.blocks) × (k.page < v.numbers.pages) in subst P same (t.6, t.7)
