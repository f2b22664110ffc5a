-- The first part of a survey: the states of the blocks are loaded, one after the other.
use Rattle.std.proofs.Common.{◌≡◌, ℕ, zero, suc, ◌⊎◌, ⊎_elim, inl, inr, ◌+◌, ◌<◌, ◌≤◌, All, List, [], ◌∷◌, ◌++◌, Bool, length, map, Option, None, Some}
use Rattle.std.proofs.Common.{slice_get, sym, refl, ap, ◌∙◌, subst, arith, append_assoc, take, set, get_or}
use Rattle.std.specs.List.{enumerate_from}
use Rattle.std.proofs.lemmas.List.{map-append, take_more_set, length-take-le, length-map, Elements.All-push}
use mathlib.Core.Logic.{dite}
use native.Mathlib.Decide.{ℕ_discrete}
use Rattle.geometry.specs.{Words.pin_word, declared.words.Phase.Phase, declared.words.PinWord.PinWord}
use Rattle.geometry.specs.declared.words.Phase.TheVariants.{Free, Open, Closed, Victim, Drained, Erasing, Retired}
use Rattle.flash_rule.specs.{declared.view.View.View, BroomPlays.Loaded}
use Rattle.flash_table.specs.declared.{flash.Flash.Flash, broom_seat.BroomBlocks.BroomBlocks, broom_seat.BroomSeat.BroomSeat}
use Rattle.flash_table.specs.Flash.{IsBroomOf, broom_view, own_blocks, device}
use Rattle.broom.specs.{Survey.loads_of, Survey.is_closed, Survey.closed_of, Ready.IsInRange}

-- ---- numbered lists
pub enumerate_more : {X : Type 0} (k n : ℕ) (xs : List X) (x : X) → length xs ≡ n → enumerate_from k (xs ++ x ∷ []) ≡ enumerate_from k xs ++ (k + n, x) ∷ []
enumerate_more k n [] x long = let e : k ≡ k + n = omega arith in ap (λ j. (j, x) ∷ []) e
enumerate_more {X} k n (y ∷ ys) x long =
    let there = enumerate_more (k + 1) (length ys) ys x refl in
    let e : (k + 1) + length ys ≡ k + n = omega arith in
    ap (λ (l : List (ℕ × X)). (k, y) ∷ l) (there ∙ ap (λ j. enumerate_from (k + 1) ys ++ (j, x) ∷ []) e)

-- the numbers of a list that is numbered from k on are at least k
enumerate_low : {X : Type 0} (k : ℕ) (xs : List X) (i : ℕ) (y : ℕ × X) → slice_get (enumerate_from k xs) i ≡ Some y → k ≤ y.0
enumerate_low k [] i y e = absurd (cc)
enumerate_low {X} k (x ∷ xs) zero y e = let same : k ≡ y.0 = ap (λ (o : Option (ℕ × X)). fst_or k o) e in omega arith where
  fst_or : ℕ → Option (ℕ × X) → ℕ
  fst_or d None = d
  fst_or d (Some p) = p.0
enumerate_low k (x ∷ xs) (suc i) y e = let there = enumerate_low (k + 1) xs i y e in omega arith

-- an entry of a numbered list, with what stands before and behind it; none behind it has its number
pub record StandsOnce {X : Type 0} (entries : List (ℕ × X)) (b : ℕ) (x : X) : Type 0 where
  pub earlier : List (ℕ × X)
  pub later : List (ℕ × X)
  pub is : entries ≡ earlier ++ (b, x) ∷ later
  pub last : (k : ℕ) (y : ℕ × X) → slice_get later k ≡ Some y → ¬ (y.0 ≡ b)

first_entry : {X : Type 0} (k b : ℕ) (x : X) (later : List (ℕ × X)) → k ≡ b → (k, x) ∷ later ≡ (b, x) ∷ later
first_entry k b x later e = ap (λ j. (j, x) ∷ later) e

pub enumerate_once : {X : Type 0} (k i b : ℕ) (xs : List X) (d : X) → i < length xs → k + i ≡ b → StandsOnce (enumerate_from k xs) b (get_or xs i d)
enumerate_once k i b [] d low at = absurd (omega arith)
enumerate_once {X} k zero b (x ∷ xs) d low at =
    let e : k ≡ b = omega arith in
    record {
      earlier = [];
      later = enumerate_from (k + 1) xs;
      is = first_entry k b x (enumerate_from (k + 1) xs) e;
      last = λ j y is same. let least = enumerate_low (k + 1) xs j y is in absurd (omega arith);
    }
enumerate_once {X} k (suc i) b (x ∷ xs) d low at =
    let there = enumerate_once (k + 1) i b xs d (omega arith) (omega arith) in
    record { earlier = (k, x) ∷ there.earlier; later = there.later; is = ap (λ (l : List (ℕ × X)). (k, x) ∷ l) there.is; last = there.last }

-- ---- one state more is loaded
drained_or_not : (p : Phase) → (p ≡ Drained) ⊎ (¬ (p ≡ Drained))
drained_or_not Free = inr (λ e. absurd (cc))
drained_or_not Open = inr (λ e. absurd (cc))
drained_or_not Closed = inr (λ e. absurd (cc))
drained_or_not Victim = inr (λ e. absurd (cc))
drained_or_not Drained = inl refl
drained_or_not Erasing = inr (λ e. absurd (cc))
drained_or_not Retired = inr (λ e. absurd (cc))

-- what a state step changes, whatever it found
pub loaded_changes : (v w : View) (b n : ℕ) → Loaded v b n w → w ≡ record v { loaded = v.loaded ++ (b, n) ∷ []; busy = w.busy; stale = w.stale }
loaded_changes v w b n h =
    let loaded : List (ℕ × ℕ) = v.loaded ++ (b, n) ∷ [] in
    let settle = λ (busy stale : List ℕ) (e : w ≡ record v { loaded = loaded; busy = busy; stale = stale }). e
    ∙ (λ i. record v { loaded = loaded; busy = (sym e i).busy; stale = (sym e i).stale }) in
    ⊎_elim
    (λ drained. dite (ℕ_discrete h.state.readers 0) (λ none. settle v.busy v.stale (h.ready drained none))
    (λ some. settle (v.busy ++ b ∷ []) v.stale (h.busy drained (omega arith))))
    (λ other. settle v.busy (v.stale ++ b ∷ []) (h.stale other))
    (drained_or_not h.state.phase)

-- The states of all blocks below this one were loaded in order, and nothing else has changed
pub record LoadedTo (f : Flash) (v : View) (x : BroomBlocks) (b : ℕ) (s : BroomSeat) (states : List PinWord) (closed : List Bool) : Type 0 where
  pub seat : IsBroomOf f s
  pub blocks : own_blocks s ≡ x
  pub changed : broom_view s ≡ record v { loaded = v.loaded ++ loads_of (take b states); busy = (broom_view s).busy; stale = (broom_view s).stale }
  pub ranges : All (IsInRange (device f)) (take b states)
  pub marked : take b closed ≡ closed_of (take b states)

pub loaded_more : (f : Flash) (v : View) (x : BroomBlocks) (b : ℕ) (s t : BroomSeat) (states : List PinWord) (closed : List Bool) (p : PinWord)
    → LoadedTo f v x b s states closed → b < length states → b < length closed → IsBroomOf f t → own_blocks t ≡ own_blocks s → IsInRange (device f) p
    → Loaded (broom_view s) b (pin_word p) (broom_view t)
    → LoadedTo f v x (b + 1) t (set states b p) (set closed b (is_closed p.phase))
loaded_more f v x b s t states closed p h low low' seat blocks range told =
    let now : take (b + 1) (set states b p) ≡ take b states ++ p ∷ [] = take_more_set states b p low in
    let long : length (map pin_word (take b states)) ≡ b = length-map (take b states) pin_word ∙ length-take-le b states (omega arith) in
    let loads : loads_of (take b states) ++ (b, pin_word p) ∷ [] ≡ loads_of (take (b + 1) (set states b p)) =
    sym (enumerate_more 0 b (map pin_word (take b states)) (pin_word p) long
    ∙ (let e : 0 + b ≡ b = omega arith in ap (λ j. loads_of (take b states) ++ (j, pin_word p) ∷ []) e))
    ∙ ap (enumerate_from 0) (sym (map-append pin_word (take b states) (p ∷ [])) ∙ ap (λ l. map pin_word l) (sym now)) in
    let all : (broom_view s).loaded ++ (b, pin_word p) ∷ [] ≡ v.loaded ++ loads_of (take (b + 1) (set states b p)) =
    ap (λ (w : View). w.loaded ++ (b, pin_word p) ∷ []) h.changed
    ∙ (append_assoc v.loaded (loads_of (take b states)) ((b, pin_word p) ∷ []) ∙ ap (λ l. v.loaded ++ l) loads) in
    record {
      seat = seat;
      blocks = blocks ∙ h.blocks;
      changed = loaded_changes (broom_view s) (broom_view t) b (pin_word p) told
          ∙ (λ i. record (h.changed i) { loaded = all i; busy = (broom_view t).busy; stale = (broom_view t).stale });
      ranges = subst (All (IsInRange (device f))) (sym now) (All-push (IsInRange (device f)) (take b states) p h.ranges range);
      marked = take_more_set closed b (is_closed p.phase) low'
          ∙ (ap (λ l. l ++ is_closed p.phase ∷ []) h.marked
          ∙ (sym (map-append (λ (y : PinWord). is_closed y.phase) (take b states) (p ∷ [])) ∙ ap closed_of (sym now)));
    }
