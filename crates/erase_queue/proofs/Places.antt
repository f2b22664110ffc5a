-- Lists that grow at the end, a function with one value replaced, and the passes of a list with one of them changed.
use Rattle.std.proofs.Common.{◌≡◌, ◌≢◌, ℕ, zero, suc, ◌+◌, ◌<◌, ◌≤◌, ◌⊎◌, inl, inr, ⊎_elim, ◌==◌, eq-eqb, ne_eqb, if◌then◌else◌, List, [], ◌∷◌, ◌++◌, None}
use Rattle.std.proofs.Common.{Some, length, set, slice_get, sym, refl, ap, ◌∙◌, subst, arith}
use mathlib.Core.{Logic.dite, Option.some, Option.some-injective, Option.some-ne-none}
use native.Mathlib.Decide.{ℕ_discrete}
use lib.ListN.{get_elem?}
use Rattle.crossbeam_queue.proofs.Lists.{at_longer, set_else}
use Rattle.geometry.specs.History.{Begins}
use Rattle.erase_queue.specs.{declared.sight.Sight.Sight, Rule.AreOwn, Rule.AreOwned}

pub some_same : {X : Type 0} (x y : X) → Some x ≡ Some y → x ≡ y
some_same x y e = cc

pub none_some : {X : Type 0} (x : X) → ¬ (None ≡ Some x)
none_some x e = absurd (cc)

module _ {X : Type 0} where
  -- what stands at a place of a list with one more at the end
  pub get_last : (xs : List X) (x y : X) (k : ℕ) → slice_get (xs ++ x ∷ []) k ≡ Some y → (slice_get xs k ≡ Some y) ⊎ ((k ≡ length xs) × (x ≡ y))
  get_last [] x y zero e = inr (refl, some_same x y e)
  get_last [] x y (suc k) e = absurd (none_some y e)
  get_last (z ∷ xs) x y zero e = inl e
  get_last (z ∷ xs) x y (suc k) e = ⊎_elim (λ h. inl h) (λ h. inr (ap suc h.0, h.1)) (get_last xs x y k e)

  -- a place of a list that goes on is as it was
  pub get_longer : (xs ys : List X) (k : ℕ) (x : X) → slice_get xs k ≡ Some x → slice_get (xs ++ ys) k ≡ Some x
  get_longer [] ys k x e = absurd (none_some x e)
  get_longer (z ∷ xs) ys zero x e = e
  get_longer (z ∷ xs) ys (suc k) x e = get_longer xs ys k x e

  -- behind a list stands what follows it
  pub get_behind : (xs ys : List X) (x : X) → slice_get (xs ++ x ∷ ys) (length xs) ≡ Some x
  get_behind [] ys x = refl
  get_behind (z ∷ xs) ys x = get_behind xs ys x

  -- a list with one more has one more
  pub length_last : (xs : List X) (x : X) → length (xs ++ x ∷ []) ≡ length xs + 1
  length_last [] x = refl
  length_last (z ∷ xs) x = let h = length_last xs x in omega arith

  pub set_there : (l : List X) (i : ℕ) (a b : X) → get_elem? l i ≡ some a → get_elem? (set l i b) i ≡ some b
  set_there [] i a b e = absurd (some-ne-none a (sym e))
  set_there (x ∷ xs) zero a b e = refl
  set_there (x ∷ xs) (suc i) a b e = set_there xs i a b e

-- a function with one value replaced
abbrev pub replaced : {X : Type 0} → (ℕ → X) → ℕ → X → ℕ → X
replaced f k x j = if j == k then x else f j

module _ {X : Type 0} (f : ℕ → X) (k : ℕ) (x : X) where
  pub replaced_here : replaced f k x k ≡ x
  replaced_here = rw (eq-eqb k k refl) refl

  pub replaced_else : (j : ℕ) → j ≢ k → replaced f k x j ≡ f j
  replaced_else j ne = rw (ne_eqb j k ne) refl

begins_short : {X : Type 0} (k l : List X) → length k ≤ length (k ++ l)
begins_short [] l = omega arith
begins_short (x ∷ k) l = let h = begins_short k l in omega arith

-- a list is no shorter than its beginning
pub no_shorter : {X : Type 0} (k l : List X) → Begins k l → length k ≤ length l
no_shorter k l b = let h = begins_short k b.0 in let e = ap length b.1 in omega arith

-- what a pass keeps of its own places, and what all of them own, while others' places are added
pub own_stay : (bound bound' : ℕ) (owner owner' : ℕ → ℕ × ℕ) (pass : ℕ) (places : List ℕ) → bound ≤ bound' → ((k : ℕ) → k < bound → owner' k ≡ owner k)
    → AreOwn bound owner pass places → AreOwn bound' owner' pass places
own_stay bound bound' owner owner' pass places le same own j k at = let here = own j k at in let low = here.0 in (omega arith, same k low ∙ here.1)

-- the next place is this pass's own
pub own_grow : (bound bound' : ℕ) (owner : ℕ → ℕ × ℕ) (pass : ℕ) (places : List ℕ) → bound' ≡ bound + 1
    → AreOwn bound owner pass places → AreOwn bound' (replaced owner bound (pass, length places)) pass (places ++ bound ∷ [])
own_grow bound bound' owner pass places more own j k at =
    let owner' : ℕ → ℕ × ℕ = replaced owner bound (pass, length places) in
    ⊎_elim
    (λ (was : slice_get places j ≡ Some k). let here = own j k was in let low = here.0 in
    (omega arith, replaced_else owner bound (pass, length places) k (λ e. omega arith) ∙ here.1))
    (λ (new : (j ≡ length places) × (bound ≡ k)).
    let here = new.1 in
    (omega arith, ap owner' (sym new.1) ∙ replaced_here owner bound (pass, length places) ∙ (λ i. (pass, sym new.0 i))))
    (get_last places bound k j at)

-- the place stands among the own places of the pass by which it was
abbrev pub IsOwnedBy : (Sight → List ℕ) → List Sight → ℕ → ℕ × ℕ → Type 0
IsOwnedBy own views k by = (v : Sight) × (get_elem? views by.0 ≡ some v) × (slice_get (own v) by.1 ≡ Some k)

module _ (own : Sight → List ℕ) where
  -- a place that a pass owns stays its own while that pass's list goes on
  pub owned_set : (views : List Sight) (pass : ℕ) (v w : Sight) → get_elem? views pass ≡ some v
      → ((i k : ℕ) → slice_get (own v) i ≡ Some k → slice_get (own w) i ≡ Some k)
      → (k : ℕ) (by : ℕ × ℕ) → IsOwnedBy own views k by → IsOwnedBy own (set views pass w) k by
  owned_set views pass v w at more k by old =
      dite (ℕ_discrete by.0 pass)
      (λ same.
      let is : v ≡ old.0 = some-injective v old.0 (sym at ∙ ap (λ (n : ℕ). get_elem? views n) (sym same) ∙ old.1) in
      let there : get_elem? (set views pass w) by.0 ≡ some w = ap (λ (n : ℕ). get_elem? (set views pass w) n) same ∙ set_there views pass v w at in
      (w, there, more by.1 k (ap (λ (y : Sight). slice_get (own y) by.1) is ∙ old.2)))
      (λ other. (old.0, set_else views pass by.0 w other ∙ old.1, old.2))

  pub owned_snoc : (views : List Sight) (w : Sight) (k : ℕ) (by : ℕ × ℕ) → IsOwnedBy own views k by → IsOwnedBy own (views ++ w ∷ []) k by
  owned_snoc views w k by old = (old.0, at_longer views (w ∷ []) by.0 old.0 old.1, old.2)

  -- and the next place is this pass's own
  pub owned_grow : (bound bound' : ℕ) (owner : ℕ → ℕ × ℕ) (views : List Sight) (pass : ℕ) (v w : Sight) → bound' ≡ bound + 1
      → get_elem? views pass ≡ some v → own w ≡ own v ++ bound ∷ []
      → AreOwned bound owner own views → AreOwned bound' (replaced owner bound (pass, length (own v))) own (set views pass w)
  owned_grow bound bound' owner views pass v w more at grown old k low =
      let views' : List Sight = set views pass w in
      let by : ℕ × ℕ = (pass, length (own v)) in
      dite (ℕ_discrete k bound)
      (λ same.
      let last : slice_get (own w) (length (own v)) ≡ Some k =
      ap (λ (y : List ℕ). slice_get y (length (own v))) grown ∙ get_behind (own v) [] bound ∙ ap (λ (n : ℕ). Some n) (sym same) in
      subst (IsOwnedBy own views' k) (sym (ap (replaced owner bound by) same ∙ replaced_here owner bound by)) (w, set_there views pass v w at, last))
      (λ other.
      let was : k < bound = omega arith in
      let longer = λ (i n : ℕ) (e : slice_get (own v) i ≡ Some n). ap (λ (y : List ℕ). slice_get y i) grown ∙ get_longer (own v) (bound ∷ []) i n e in
      subst (IsOwnedBy own views' k) (sym (replaced_else owner bound by k other)) (owned_set views pass v w at longer k (owner k) (old k was)))
