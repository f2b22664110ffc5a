-- The greedy choice: the relation of a chosen place to the others fixes what the search of the definition finds.
use Rattle.std.proofs.Common.{◌≡◌, inl, inr, ℕ, zero, suc, ◌<◌, ◌≤◌, Bool, true, false, not, ◌&&◌, ◌||◌, List, [], ◌∷◌, length, get_or, Option, None, Some}
use Rattle.std.proofs.Common.{sym, ap, ◌∙◌, refl, arith, leb}
use Rattle.std.{specs.List.zip, specs.List.position_or_len, specs.List.list_all, proofs.lemmas.List.Sums.position_or_len_is}
use Rattle.std.proofs.lemmas.Bool.{false≢true, le-leb, leb-true, lt-ltb, le-ltb, and_from, and_parts, or_cases, cases_Bool, not-true, and_left, and_right}
use Rattle.std.proofs.lemmas.{Bool.or_left, Bool.or_right, Bool.cases_lt, List.Quantifiers.position-Some, List.get_or_past}
use Rattle.geometry.specs.Greedy.{greedy_of, IsClosed, IsGreedy}

-- the pair at a place
get_or-zip : (counts : List ℕ) (closed : List Bool) (i : ℕ) → length counts ≡ length closed
    → get_or (zip counts closed) i (0, false) ≡ (get_or counts i 0, get_or closed i false)
get_or-zip [] [] i e = refl
get_or-zip [] (b ∷ bs) i e = absurd (omega arith)
get_or-zip (c ∷ cs) [] i e = absurd (omega arith)
get_or-zip (c ∷ cs) (b ∷ bs) zero e = refl
get_or-zip (c ∷ cs) (b ∷ bs) (suc i) e = get_or-zip cs bs i (omega arith)

length-zip : (counts : List ℕ) (closed : List Bool) → length counts ≡ length closed → length (zip counts closed) ≡ length counts
length-zip [] [] e = refl
length-zip [] (b ∷ bs) e = refl
length-zip (c ∷ cs) [] e = absurd (omega arith)
length-zip (c ∷ cs) (b ∷ bs) e = ap suc (length-zip cs bs (omega arith))

-- a test that holds at each place holds of all, and the other way round
all_from_places : {X : Type 0} (p : X → Bool) (xs : List X) (d : X) → ((k : ℕ) → k < length xs → p (get_or xs k d) ≡ true) → list_all p xs ≡ true
all_from_places p [] d h = refl
all_from_places p (x ∷ xs) d h = and_from (p x) (list_all p xs) (h 0 (omega arith)) (all_from_places p xs d (λ k low. h (suc k) (omega arith)))

places_from_all : {X : Type 0} (p : X → Bool) (xs : List X) (d : X) → list_all p xs ≡ true → (k : ℕ) → k < length xs → p (get_or xs k d) ≡ true
places_from_all p [] d h k low = absurd (omega arith)
places_from_all p (x ∷ xs) d h zero low = (and_parts (p x) (list_all p xs) h).0
places_from_all p (x ∷ xs) d h (suc k) low = places_from_all p xs d (and_parts (p x) (list_all p xs) h).1 k (omega arith)

-- the tests of the definition
within : ℕ × Bool → ℕ × Bool → Bool
within place other = not other.1 || leb place.0 other.0

chosen : List (ℕ × Bool) → ℕ × Bool → Bool
chosen places place = place.1 && list_all (within place) places

closed_below : (closed : List Bool) (k : ℕ) → IsClosed closed k → k < length closed
closed_below closed k h = elim (cases_lt k (length closed)) [
  | inl low ↦ low
  | inr past ↦ absurd (false≢true (sym (get_or_past closed k false past) ∙ h))
]

module _ (counts : List ℕ) (closed : List Bool) (e : length counts ≡ length closed) where
  places : List (ℕ × Bool)
  places = zip counts closed

  chosen_at : (b : ℕ) → IsGreedy counts closed b → chosen places (get_or places b (0, false)) ≡ true
  unfolding chosen within places
  chosen_at b best =
      rw (get_or-zip counts closed b e)
      (and_from (get_or closed b false) (list_all (within (get_or counts b 0, get_or closed b false)) places) best.is_closed
      (all_from_places (within (get_or counts b 0, get_or closed b false)) places (0, false) (λ k low.
      rw (get_or-zip counts closed k e)
      (elim (cases_Bool (get_or closed k false)) [
        | inl shut ↦ or_right (not (get_or closed k false)) (leb (get_or counts b 0) (get_or counts k 0))
            (le-leb (get_or counts b 0) (get_or counts k 0) (best.least k shut))
        | inr ajar ↦ or_left (not (get_or closed k false)) (leb (get_or counts b 0) (get_or counts k 0)) (ap not ajar)
      ]))))

  not_chosen_open : (k : ℕ) → get_or closed k false ≡ false → chosen places (get_or places k (0, false)) ≡ false
  unfolding chosen within places
  not_chosen_open k ajar =
      rw (get_or-zip counts closed k e)
      (and_left (get_or closed k false) (list_all (within (get_or counts k 0, get_or closed k false)) places) ajar)

  not_chosen_below : (b k : ℕ) → IsGreedy counts closed b → k < b → chosen places (get_or places k (0, false)) ≡ false
  unfolding chosen within places
  not_chosen_below b k best low =
      rw (get_or-zip counts closed k e)
      (elim (cases_Bool (get_or closed k false)) [
        | inr ajar ↦ and_left (get_or closed k false) (list_all (within (get_or counts k 0, get_or closed k false)) places) ajar
        | inl shut ↦ elim (cases_Bool (list_all (within (get_or counts k 0, get_or closed k false)) places)) [
          | inr none ↦ and_right (get_or closed k false) (list_all (within (get_or counts k 0, get_or closed k false)) places) none
          | inl all ↦
              let below : b < length places = omega (arith, length-zip counts closed e, closed_below closed b best.is_closed) in
              let at_b = rw (get_or-zip counts closed b e) at (places_from_all (within (get_or counts k 0, get_or closed k false)) places
              (0, false) all b below) in
              elim (or_cases (not (get_or closed b false)) (leb (get_or counts k 0) (get_or counts b 0)) at_b) [
                | inl off ↦ absurd (false≢true (sym (not-true (get_or closed b false) off) ∙ best.is_closed))
                | inr le ↦ absurd (omega (arith, leb-true (get_or counts k 0) (get_or counts b 0) le, best.lowest k low shut))
              ]
        ]
      ])

  -- the chosen place is the one that the definition finds
  pub greedy_of-best : (b : ℕ) → IsGreedy counts closed b → greedy_of counts closed ≡ Some b
  unfolding greedy_of chosen within places
  greedy_of-best b best =
      let below : b < length places = omega (arith, length-zip counts closed e, closed_below closed b best.is_closed) in
      let found : position_or_len (chosen places) places ≡ b =
      position_or_len_is (chosen places) places b (0, false) (omega arith) (λ k low. not_chosen_below b k best low) (λ _. chosen_at b best) in
      rw found (rw (lt-ltb b (length places) below) refl)

  -- the definition finds none where none is closed
  pub greedy_of-none : ((k : ℕ) → IsClosed closed k → ⊥) → greedy_of counts closed ≡ None
  unfolding greedy_of chosen within places
  greedy_of-none none =
      let off : (k : ℕ) → get_or closed k false ≡ false =
      λ k. elim (cases_Bool (get_or closed k false)) [ inl shut ↦ absurd (none k shut) | inr ajar ↦ ajar ] in
      let found : position_or_len (chosen places) places ≡ length places =
      position_or_len_is (chosen places) places (length places) (0, false) (omega arith) (λ k low. not_chosen_open k (off k)) (λ h. absurd (omega arith)) in
      rw found (rw (le-ltb (length places) (length places) (omega arith)) refl)

-- the best of the places below i, where one of them is closed
pub record IsBestBelow (counts : List ℕ) (closed : List Bool) (i b : ℕ) : Type 0 where
  pub below : b < i
  pub is_closed : IsClosed closed b
  pub least : (k : ℕ) → k < i → IsClosed closed k → get_or counts b 0 ≤ get_or counts k 0
  pub lowest : (k : ℕ) → k < b → IsClosed closed k → get_or counts b 0 < get_or counts k 0

abbrev pub BestBelow : List ℕ → List Bool → ℕ → Option ℕ → Type 0
BestBelow counts closed i None = (k : ℕ) → k < i → IsClosed closed k → ⊥
BestBelow counts closed i (Some b) = IsBestBelow counts closed i b

-- the best of all places is the greedy one
pub BestBelow-all : (counts : List ℕ) (closed : List Bool) (b : ℕ) → length counts ≡ length closed → IsBestBelow counts closed (length counts) b
    → IsGreedy counts closed b
BestBelow-all counts closed b e h =
    record { is_closed = h.is_closed; least = λ k is. h.least k (omega (arith, closed_below closed k is)) is; lowest = h.lowest }

pub greedy_of-all : (counts : List ℕ) (closed : List Bool) (best : Option ℕ) → length counts ≡ length closed
    → BestBelow counts closed (length counts) best → best ≡ greedy_of counts closed
greedy_of-all counts closed None e h = sym (greedy_of-none counts closed e (λ k is. h k (omega (arith, closed_below closed k is)) is))
greedy_of-all counts closed (Some b) e h = sym (greedy_of-best counts closed e b (BestBelow-all counts closed b e h))

-- what the definition finds is closed, and no closed place has a smaller count
module _ (counts : List ℕ) (closed : List Bool) (e : length counts ≡ length closed) (b : ℕ) (found : greedy_of counts closed ≡ Some b) where
  at_found : chosen (zip counts closed) (get_or (zip counts closed) b (0, false)) ≡ true
  unfolding greedy_of chosen within
  at_found = (position-Some (chosen (zip counts closed)) (zip counts closed) b (0, false) found).1

  parts_found : (get_or closed b false ≡ true) × (list_all (within (get_or counts b 0, get_or closed b false)) (zip counts closed) ≡ true)
  unfolding chosen
  parts_found =
      and_parts (get_or closed b false) (list_all (within (get_or counts b 0, get_or closed b false)) (zip counts closed))
      (rw (get_or-zip counts closed b e) at at_found)

  pub greedy_of-closed : IsClosed closed b
  greedy_of-closed = parts_found.0

  pub greedy_of-least : (k : ℕ) → IsClosed closed k → get_or counts b 0 ≤ get_or counts k 0
  unfolding within
  greedy_of-least k shut =
      let below : k < length (zip counts closed) = omega (arith, closed_below closed k shut, length-zip counts closed e) in
      let at_k = rw (get_or-zip counts closed k e) at (places_from_all (within (get_or counts b 0, get_or closed b false)) (zip counts closed)
      (0, false) parts_found.1 k below) in
      elim (or_cases (not (get_or closed k false)) (leb (get_or counts b 0) (get_or counts k 0)) at_k) [
        | inl off ↦ absurd (false≢true (sym (not-true (get_or closed k false) off) ∙ shut))
        | inr le ↦ leb-true (get_or counts b 0) (get_or counts k 0) le
      ]
