-- The marks of a broom: what it loaded last of each block, and which steps leave the marks true.
use Rattle.std.proofs.Common.{◌≡◌, ℕ, zero, suc, ◌<◌, ◌==◌, Bool, true, false, List, [], ◌∷◌, ◌++◌, length, map, Option, None, Some, slice_get, sym, refl, ap}
use Rattle.std.proofs.Common.{◌∙◌, subst, arith, append_assoc, set, get_or}
use Rattle.std.proofs.lemmas.Option.{get_or_from_slice_get, slice_get-get_or, slice_get_read}
use Rattle.std.proofs.lemmas.List.{get_or-map, length-map, get_or-set_same, get_or-set_other}
use mathlib.Core.Logic.{dite}
use native.Mathlib.Decide.{ℕ_discrete}
use Rattle.geometry.specs.{Greedy.IsClosed, Limits.Numbers, Words.FitsPin, Words.pin_word}
use Rattle.geometry.proofs.WordBits.{pin_same}
use Rattle.geometry.specs.declared.words.{Phase.Phase, PinWord.PinWord}
use Rattle.geometry.specs.declared.words.Phase.TheVariants.{Free, Open, Closed, Victim, Drained, Erasing, Retired}
use Rattle.flash_rule.specs.{declared.view.View.View, BroomPlays.IsLastLoaded}
use Rattle.broom.specs.{Survey.is_closed, Survey.closed_of, Survey.loads_of, Ready.last_of, Ready.unless_later, Ready.AreMarked, Surveying.StatesLoaded}
use Rattle.broom.proofs.{Loading.StandsOnce, Loading.enumerate_once, Choosing.closed_low}

not_same : (c b : ℕ) → ¬ (c ≡ b) → (c == b) ≡ false
not_same c b other = grind arith

-- the word of one block is no word of another
pub last_of-other : (b c n : ℕ) (loads : List (ℕ × ℕ)) → ¬ (c ≡ b) → last_of b (loads ++ (c, n) ∷ []) ≡ last_of b loads
last_of-other b c n [] other = ap (λ here. unless_later here n None) (not_same c b other)
last_of-other b c n (load ∷ later) other = ap (unless_later (load.0 == b) load.1) (last_of-other b c n later other)

later_none : (here : Bool) (n : ℕ) (o : Option ℕ) → unless_later here n o ≡ None → (here ≡ false) × (o ≡ None)
later_none true n None e = absurd (cc)
later_none false n None e = (refl, refl)
later_none here n (Some m) e = absurd (cc)

-- where no word of a block was loaded, none stands in the list
last_of-none : (b : ℕ) (loads : List (ℕ × ℕ)) → last_of b loads ≡ None → (k : ℕ) (x : ℕ × ℕ) → slice_get loads k ≡ Some x → ¬ (x.0 ≡ b)
last_of-none b [] none k x is same = absurd (cc)
last_of-none b (load ∷ later) none zero x is same =
    let t = later_none (load.0 == b) load.1 (last_of b later) none in
    let first : load.0 ≡ x.0 = ap (λ (o : Option (ℕ × ℕ)). fst_or 0 o) is in
    absurd (grind arith) where
      fst_or : ℕ → Option (ℕ × ℕ) → ℕ
      fst_or d None = d
      fst_or d (Some p) = p.0
last_of-none b (load ∷ later) none (suc k) x is same = last_of-none b later (later_none (load.0 == b) load.1 (last_of b later) none).1 k x is same

stands_more : (b n : ℕ) (load : ℕ × ℕ) (later : List (ℕ × ℕ)) (here : Bool) → (load.0 == b) ≡ here → (o : Option ℕ) → last_of b later ≡ o
    → unless_later here load.1 o ≡ Some n → ((m : ℕ) → last_of b later ≡ Some m → StandsOnce later b m) → StandsOnce (load ∷ later) b n
stands_more b n load later here this (Some m) behind is more =
    let there = more n (behind ∙ is) in
    record { earlier = load ∷ there.earlier; later = there.later; is = ap (λ (l : List (ℕ × ℕ)). load ∷ l) there.is; last = there.last }
stands_more b n load later true this None behind is more =
    let first : load.0 ≡ b = grind arith in
    let word : load.1 ≡ n = cc in record { earlier = []; later = later; is = λ i. (first i, word i) ∷ later; last = last_of-none b later behind }
stands_more b n load later false this None behind is more = absurd (cc)

-- the word loaded last stands in the list, and none of its block behind it
pub last_of-stands : (b n : ℕ) (loads : List (ℕ × ℕ)) → last_of b loads ≡ Some n → StandsOnce loads b n
last_of-stands b n [] is = absurd (cc)
last_of-stands b n (load ∷ later) is = stands_more b n load later (load.0 == b) refl (last_of b later) refl is (λ m behind. last_of-stands b m later behind)

-- a word with none of its block behind it was loaded last
last_of-absent : (b : ℕ) (loads : List (ℕ × ℕ)) → ((k : ℕ) (x : ℕ × ℕ) → slice_get loads k ≡ Some x → ¬ (x.0 ≡ b)) → last_of b loads ≡ None
last_of-absent b [] absent = refl
last_of-absent b (load ∷ later) absent =
    let behind = last_of-absent b later (λ k x is. absent (suc k) x is) in
    ap (unless_later (load.0 == b) load.1) behind ∙ ap (λ here. unless_later here load.1 None) (not_same load.0 b (absent 0 load refl))

same_true : (b : ℕ) → (b == b) ≡ true
same_true b = grind arith

pub last_of-at : (b n : ℕ) (before later : List (ℕ × ℕ)) → ((k : ℕ) (x : ℕ × ℕ) → slice_get later k ≡ Some x → ¬ (x.0 ≡ b))
    → last_of b (before ++ (b, n) ∷ later) ≡ Some n
last_of-at b n [] later absent = ap (unless_later (b == b) n) (last_of-absent b later absent) ∙ ap (λ here. unless_later here n None) (same_true b)
last_of-at b n (load ∷ before) later absent = ap (unless_later (load.0 == b) load.1) (last_of-at b n before later absent)

pub last_of-loaded : (b n : ℕ) (v : View) → last_of b v.loaded ≡ Some n → IsLastLoaded v b n
last_of-loaded b n v is = let t = last_of-stands b n v.loaded is in record { earlier = t.earlier; later = t.later; is = t.is; last = t.last }

-- ---- marks
pub closed_phase : (p : Phase) → is_closed p ≡ true → p ≡ Closed
closed_phase Free e = absurd (cc)
closed_phase Open e = absurd (cc)
closed_phase Closed e = refl
closed_phase Victim e = absurd (cc)
closed_phase Drained e = absurd (cc)
closed_phase Erasing e = absurd (cc)
closed_phase Retired e = absurd (cc)

module _ (z : Numbers) (states : List PinWord) where
  -- marks that go leave the others true, and so do steps that load no state
  pub marks_kept : (v w : View) (marks fewer : List Bool) → w.loaded ≡ v.loaded → ((k : ℕ) → IsClosed fewer k → IsClosed marks k)
      → AreMarked z v states marks → AreMarked z w states fewer
  marks_kept v w marks fewer same go were k d is = let h = were k d (go k is) in
      record { range = h.range; closed = h.closed; last = ap (last_of k) same ∙ h.last }

  -- a state of a block that isn't marked may be loaded
  pub marks_loaded : (v w : View) (marks : List Bool) (b n : ℕ) → w.loaded ≡ v.loaded ++ (b, n) ∷ [] → ¬ (IsClosed marks b)
      → AreMarked z v states marks → AreMarked z w states marks
  marks_loaded v w marks b n more other were k d is =
      let h = were k d is in
      let apart : ¬ (b ≡ k) = λ e. other (subst (IsClosed marks) (sym e) is) in
      record { range = h.range; closed = h.closed; last = ap (last_of k) more ∙ (last_of-other k b n v.loaded apart ∙ h.last) }

  -- the marks of a survey are true
  pub marks_surveyed : (v w : View) (marks : List Bool) → StatesLoaded z v states marks w → AreMarked z w states marks
  marks_surveyed v w marks told k d is =
      let shut : IsClosed (closed_of states) k = subst (λ l. IsClosed l k) told.marked is in
      let low : k < length states = let long = length-map states (λ (p : PinWord). is_closed p.phase) in
      let below = closed_low (closed_of states) k shut in omega arith in
      let p = get_or states k d in
      let mark : is_closed p.phase ≡ true = sym (get_or-map (λ (p : PinWord). is_closed p.phase) states k d false low) ∙ shut in
      let long : k < length (map pin_word states) = let e = length-map states pin_word in omega arith in
      let once = enumerate_once 0 k k (map pin_word states) 0 long (omega arith) in
      let word : get_or (map pin_word states) k 0 ≡ pin_word p = get_or-map pin_word states k d 0 low in
      record {
        range = told.ranges k d low;
        closed = closed_phase p.phase mark;
        last = ap (λ (x : View). last_of k x.loaded) told.changed
            ∙ (last_all v.loaded (loads_of states) k (get_or (map pin_word states) k 0) once ∙ ap Some word);
      } where
        last_all : (before loads : List (ℕ × ℕ)) (b n : ℕ) → StandsOnce loads b n → last_of b (before ++ loads) ≡ Some n
        last_all before loads b n h =
            ap (λ l. last_of b (before ++ l)) h.is
            ∙ (ap (last_of b) (sym (append_assoc before h.earlier ((b, n) ∷ h.later))) ∙ last_of-at b n (before ++ h.earlier) h.later h.last)

-- the mark of a block goes, and the others stay
pub unmarked : (marks : List Bool) (b : ℕ) → b < length marks → ¬ (IsClosed (set marks b false) b)
unmarked marks b low is = let e = get_or-set_same marks b false false low in let both : false ≡ true = sym e ∙ is in absurd (cc)

pub still_marked : (marks : List Bool) (b : ℕ) → b < length marks → (k : ℕ) → IsClosed (set marks b false) k → IsClosed marks k
still_marked marks b low k is =
    dite (ℕ_discrete k b) (λ same. absurd (unmarked marks b low (subst (IsClosed (set marks b false)) same is)))
    (λ other. sym (get_or-set_other marks b k false false other) ∙ is)

-- a state of a block whose mark goes may be loaded
pub marks_after : (z : Numbers) (states : List PinWord) (v w : View) (marks : List Bool) (b n : ℕ) → b < length marks
    → w.loaded ≡ v.loaded ++ (b, n) ∷ [] → AreMarked z v states marks → AreMarked z w states (set marks b false)
marks_after z states v w marks b n low more were =
    marks_loaded z states v w (set marks b false) b n more (unmarked marks b low)
    (marks_kept z states v v marks (set marks b false) refl (still_marked marks b low) were)

-- the same state of a block as the one that is kept may be loaded again
pub marks_reloaded : (z : Numbers) (states : List PinWord) (v w : View) (marks : List Bool) (b : ℕ) (p : PinWord) → slice_get states b ≡ Some p
    → w.loaded ≡ v.loaded ++ (b, pin_word p) ∷ [] → AreMarked z v states marks → AreMarked z w states marks
marks_reloaded z states v w marks b p kept more were k d is =
    let h = were k d is in
    let last : last_of k w.loaded ≡ Some (pin_word (get_or states k d)) =
    dite (ℕ_discrete b k) (λ same. subst (λ j. last_of j w.loaded ≡ Some (pin_word (get_or states j d))) same here)
    (λ apart. ap (last_of k) more ∙ (last_of-other k b (pin_word p) v.loaded apart ∙ h.last)) in
    record { range = h.range; closed = h.closed; last = last } where
      here : last_of b w.loaded ≡ Some (pin_word (get_or states b d))
      here = ap (last_of b) more
          ∙ (last_of-at b (pin_word p) v.loaded [] (λ j x there. absurd (cc)) ∙ ap (λ q. Some (pin_word q)) (sym (get_or_from_slice_get states b p d kept)))

-- the mark of a block, as it was read
pub mark_read : (marks : List Bool) (n b : ℕ) (mark : Bool) → length marks ≡ n → b < n → mark ≡ get_or marks b mark → get_or marks b false ≡ mark
mark_read marks n b mark long low is = get_or_from_slice_get marks b mark false (slice_get_read marks n b mark (sym long) low is)

-- a marked block whose kept state has this state's word has this state
pub same_state : (z : Numbers) (v : View) (states : List PinWord) (marks : List Bool) (b : ℕ) (q p : PinWord) → AreMarked z v states marks → IsClosed marks b
    → b < length states → q ≡ get_or states b q → FitsPin p → pin_word q ≡ pin_word p → slice_get states b ≡ Some p
same_state z v states marks b q p were is low read fits words =
    let h = were b q is in slice_get-get_or states b q low ∙ ap Some (pin_same (get_or states b q) p h.range.fits fits (ap pin_word (sym read) ∙ words))
