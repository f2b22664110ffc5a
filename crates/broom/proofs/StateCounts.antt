-- The states of the blocks are loaded and counted, one after the other, and the broom keeps its survey.
use Rattle.std.proofs.Common.{◌≡◌, ℕ, zero, suc, ◌⊎◌, inl, inr, ◌+◌, ◌<◌, ◌≤◌, ◌==◌, if◌then◌else◌, All, List, [], ◌∷◌, ◌++◌, Bool, true, false, length, map}
use Rattle.std.proofs.Common.{Some, slice_get, sym, refl, ap, ◌∙◌, subst, arith, append_assoc, append-nil, get_or, sum_by}
use Rattle.std.specs.List.{enumerate_from}
use Rattle.std.proofs.lemmas.List.{map-append, length-map, length-append, get_or-set_other, Elements.All-nil, Elements.All-push}
use Rattle.std.proofs.Math.Nat.{mul-le-mul_right}
use Rattle.std.proofs.lemmas.{List.Sums.count_by-le-length, List.Sums.sum_by-append, List.Sums.sum_by-le, Option.slice_get_within}
use Rattle.geometry.specs.{Geometry.blocks_of, Greedy.IsClosed, Limits.Numbers, Words.phase_bits, Words.pin_word}
use Rattle.geometry.specs.declared.words.{Phase.Phase, PinWord.PinWord}
use Rattle.flash_rule.specs.declared.view.View.{View}
use Rattle.flash_table.specs.{declared.flash.Flash.Flash, Flash.geometry_of, Flash.device}
use Rattle.broom.specs.declared.{block_counts.BlockCounts.BlockCounts, broom.Broom.Broom}
use Rattle.broom.specs.{Loading.FitsOneMore, Loading.counted_one, Loading.one_in, Handing.HandsNothing, Survey.loads_of}
use Rattle.broom.specs.Loading.{HasState, KeepsMarks, StateLoaded, counts_in, erases_in, in_phase}
use Rattle.broom.specs.Ready.{IsInRange, IsReady, view_of_broom, blocks_of_broom, marks_of}
use Rattle.broom.specs.Told.{counts_kept, states_kept}
use Rattle.broom.proofs.{Loading.enumerate_more, Loading.loaded_changes, Marking.still_marked}
use Rattle.geometry.specs.declared.words.Phase.TheVariants as phase

-- ---- counts
sum_more : {X : Type 0} (f : X → ℕ) (xs : List X) (x : X) → sum_by f (xs ++ x ∷ []) ≡ sum_by f xs + f x
sum_more f xs x = let one : 0 + f x ≡ f x = omega arith in sum_by-append f xs (x ∷ []) ∙ ap (λ n. sum_by f xs + n) one

in_phase_more : (f : Phase) (states : List PinWord) (p : PinWord) → in_phase f (states ++ p ∷ []) ≡ in_phase f states + one_in f p
in_phase_more f states p = sum_more (one_in f) states p

counts_more : (states : List PinWord) (p : PinWord) → counted_one p (counts_in states) ≡ counts_in (states ++ p ∷ [])
counts_more states p = λ i. record {
  erases = sym (sum_more erases_in states p) i;
  free = sym (in_phase_more phase.Free states p) i;
  «open» = sym (in_phase_more phase.Open states p) i;
  closed = sym (in_phase_more phase.Closed states p) i;
  victims = sym (in_phase_more phase.Victim states p) i;
  drained = sym (in_phase_more phase.Drained states p) i;
  erasing = sym (in_phase_more phase.Erasing states p) i;
  retired = sym (in_phase_more phase.Retired states p) i;
}

-- a block has had at most as many erases as it endures
at_most_one : (here : Bool) → (if here then 1 else 0) ≤ 1
at_most_one true = omega arith
at_most_one false = omega arith

erases_bounded : (z : Numbers) (p : PinWord) → z.endurance ≤ 1000000 → IsInRange z p → erases_in p ≤ 1000000
erases_bounded z p most h =
    let young = h.young in
    let one = at_most_one (phase_bits p.phase == phase_bits phase.Retired) in omega arith

-- so the counts have room for one block more
pub has_room : (z : Numbers) (states : List PinWord) (p : PinWord) → z.endurance ≤ 1000000 → length states ≤ 4096 → All (IsInRange z) states → IsInRange z p
    → FitsOneMore p (counts_in states)
has_room z states p most few ranges range =
    let sum = sum_by-le erases_in 1000000 states (λ k d low. erases_bounded z (get_or states k d) most (ranges k d low)) in
    let size = mul-le-mul_right 1000000 few in
    record {
      generation = (let young = range.young in omega arith);
      erases = omega arith;
      free = below phase.Free;
      «open» = below phase.Open;
      closed = below phase.Closed;
      victims = below phase.Victim;
      drained = below phase.Drained;
      erasing = below phase.Erasing;
      retired = below phase.Retired;
    } where
      below : (f : Phase) → in_phase f states < 4294967295
      below f = let counted = count_by-le-length (λ (q : PinWord). phase_bits q.phase == phase_bits f) states in omega arith

-- a list with one element more has the same ones, and this one last
pushed : {X : Type 0} (xs : List X) (x q : X) (b : ℕ) → slice_get (xs ++ x ∷ []) b ≡ Some q
    → (slice_get xs b ≡ Some q) ⊎ ((b ≡ length xs) × (x ≡ q))
pushed [] x q zero is = inr (refl, cc)
pushed [] x q (suc b) is = absurd (cc)
pushed (y ∷ ys) x q zero is = inl is
pushed (y ∷ ys) x q (suc b) is = elim (pushed ys x q b is) [ inl e ↦ inl e | inr e ↦ inr (ap suc e.0, e.1) ]

-- ---- marks
-- after a load of one block the marks of the others are as they were
others_kept : (b k : ℕ) (p : PinWord) (now next : Broom) → StateLoaded now k p next → ¬ (b ≡ k) → IsClosed (marks_of now) b → IsClosed (marks_of next) b
others_kept b k p now next told other is = elim told.survey [
  | inl same ↦ subst (λ (l : List Bool). IsClosed l b) (sym same.marks) is
  | inr gone ↦ subst (λ (l : List Bool). IsClosed l b) (sym gone.1.marks) (get_or-set_other (marks_of now) k b false false other ∙ is)
]

-- and no mark is new
none_new : (b k : ℕ) (p : PinWord) (now next : Broom) → k < length (marks_of now) → StateLoaded now k p next → IsClosed (marks_of next) b
    → IsClosed (marks_of now) b
none_new b k p now next low told is = elim told.survey [
  | inl same ↦ subst (λ (l : List Bool). IsClosed l b) same.marks is
  | inr gone ↦ still_marked (marks_of now) k low b (subst (λ (l : List Bool). IsClosed l b) gone.1.marks is)
]

states_same : (k : ℕ) (p : PinWord) (now next : Broom) → StateLoaded now k p next → states_kept next ≡ states_kept now
states_same k p now next told = elim told.survey [ inl same ↦ same.states | inr gone ↦ gone.1.states ]

counts_same : (k : ℕ) (p : PinWord) (now next : Broom) → StateLoaded now k p next → counts_kept next ≡ counts_kept now
counts_same k p now next told = elim told.survey [ inl same ↦ same.counts | inr gone ↦ gone.1.counts ]

-- ---- the loop
-- The blocks below this one were loaded in order and counted
pub record LoadedBelow (f : Flash) (before : Broom) (k : ℕ) (now : Broom) (counts : BlockCounts) : Type 0 where
  pub loaded : List PinWord
  pub long : length loaded ≡ k
  pub counted : counts ≡ counts_in loaded
  pub ranges : All (IsInRange (device f)) loaded
  pub words : (view_of_broom now).loaded ≡ (view_of_broom before).loaded ++ loads_of loaded
  pub changed : view_of_broom now
      ≡ record (view_of_broom before) {
        loaded = (view_of_broom now).loaded;
        busy = (view_of_broom now).busy;
        stale = (view_of_broom now).stale;
      }
  pub blocks : blocks_of_broom now ≡ blocks_of_broom before
  pub survey : KeepsMarks before loaded now
  pub rest : (b : ℕ) → k ≤ b → IsClosed (marks_of before) b → IsClosed (marks_of now) b
  pub ready : IsReady f now
  pub queue : HandsNothing before now

pub loaded_below_none : (f : Flash) (b : Broom) → IsReady f b → (counts : BlockCounts) → counts ≡ counts_in [] → LoadedBelow f b 0 b counts
loaded_below_none f b ready counts none = record {
  loaded = [];
  long = refl;
  counted = none;
  ranges = All-nil (IsInRange (device f));
  words = sym (append-nil (view_of_broom b).loaded);
  changed = refl;
  blocks = refl;
  survey = record { states = refl; counts = refl; kept = λ k p is same marked. marked; only = λ k marked. marked };
  rest = λ k low marked. marked;
  ready = ready;
  queue = record { place = refl; aside = refl };
}

-- one block more is loaded
pub loaded_below_more : (f : Flash) (before : Broom) (k : ℕ) (now next : Broom) (counts : BlockCounts) (p : PinWord) → k < blocks_of (geometry_of f)
    → LoadedBelow f before k now counts → StateLoaded now k p next → IsInRange (device f) p → IsReady f next → HandsNothing now next
    → LoadedBelow f before (k + 1) next (counted_one p counts)
loaded_below_more f before k now next counts p low h told range ready queue =
    let v : View = view_of_broom before in
    let more : List PinWord = h.loaded ++ p ∷ [] in
    let load = loaded_changes (view_of_broom now) (view_of_broom next) k (pin_word p) told.loaded in
    let long : length (map pin_word h.loaded) ≡ k = length-map h.loaded pin_word ∙ h.long in
    let zero_on : 0 + k ≡ k = omega arith in
    let loads : loads_of h.loaded ++ (k, pin_word p) ∷ [] ≡ loads_of more =
    sym (ap (enumerate_from 0) (map-append pin_word h.loaded (p ∷ []))
    ∙ (enumerate_more 0 k (map pin_word h.loaded) (pin_word p) long ∙ ap (λ j. loads_of h.loaded ++ (j, pin_word p) ∷ []) zero_on)) in
    let words : (view_of_broom next).loaded ≡ v.loaded ++ loads_of more =
    ap (λ (w : View). w.loaded) load
    ∙ (ap (λ (l : List (ℕ × ℕ)). l ++ (k, pin_word p) ∷ []) h.words
    ∙ (append_assoc v.loaded (loads_of h.loaded) ((k, pin_word p) ∷ []) ∙ ap (λ (l : List (ℕ × ℕ)). v.loaded ++ l) loads)) in
    let within : k < length (marks_of now) = let wide = h.ready.closed in omega arith in
    record {
      loaded = more;
      long = length-append h.loaded (p ∷ []) ∙ ap (λ n. n + 1) h.long;
      counted = ap (counted_one p) h.counted ∙ counts_more h.loaded p;
      ranges = All-push (IsInRange (device f)) h.loaded p h.ranges range;
      words = words;
      changed = load
          ∙ (λ i. record (h.changed i) { loaded = (sym load i).loaded; busy = (view_of_broom next).busy; stale = (view_of_broom next).stale });
      blocks = told.blocks ∙ h.blocks;
      survey = record {
        states = states_same k p now next told ∙ h.survey.states;
        counts = counts_same k p now next told ∙ h.survey.counts;
        kept = kept;
        only = λ b marked. h.survey.only b (none_new b k p now next within told marked);
      };
      rest = λ b above marked. others_kept b k p now next told (omega arith) (h.rest b (omega arith) marked);
      ready = ready;
      queue = record { place = queue.place ∙ h.queue.place; aside = queue.aside ∙ h.queue.aside };
    } where
      -- the block itself, if the survey has the same state of it
      here : (b : ℕ) (q : PinWord) → b ≡ k → p ≡ q → HasState before b q → IsClosed (marks_of now) b → IsClosed (marks_of next) b
      here b q at is same marked = elim told.survey [
        | inl keeps ↦ subst (λ (l : List Bool). IsClosed l b) (sym keeps.marks) marked
        | inr gone ↦ absurd (gone.0 (ap (λ (l : List PinWord). slice_get l k) h.survey.states
            ∙ (ap (slice_get (states_kept before)) (sym at) ∙ (same ∙ ap Some (sym is)))))
      ]

      kept : (b : ℕ) (q : PinWord) → slice_get (h.loaded ++ p ∷ []) b ≡ Some q → HasState before b q → IsClosed (marks_of before) b
          → IsClosed (marks_of next) b
      kept b q is same marked = elim (pushed h.loaded p q b is) [
        | inl e ↦ (let inside = slice_get_within h.loaded b q e in let wide = h.long in
            others_kept b k p now next told (omega arith) (h.survey.kept b q e same marked))
        | inr e ↦ here b q (e.0 ∙ h.long) e.1 same (h.rest b (let at = e.0 in let wide = h.long in omega arith) marked)
      ]
