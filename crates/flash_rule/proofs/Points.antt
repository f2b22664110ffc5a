-- A function with one value replaced, numbers and names compared by test, totals over a list of views, and roles and phases by cases.
use Rattle.flash_rule.proofs.Words.{◌≡◌, ◌≢◌, ℕ, zero, suc, ◌+◌, eq-eqb, ne_eqb, ◌==◌, Bool, true, false, List, [], ◌∷◌, set, sym, refl, ap, ◌∙◌, arith}
use Rattle.flash_rule.proofs.Words.{some, some-injective, some-ne-none, get_elem?, View, Name, Broom, total, same_name, put, put_name, ◌⊎◌, Phase}
use Rattle.flash_rule.proofs.Words.{Role, Player, is_broom, is_player, is_live_role, may_own}

-- a test has one answer
pub clash : {A : Type 0} {t : Bool} → t ≡ true → t ≡ false → A
clash is not = let no : true ≡ false = sym is ∙ not in absurd (cc)

pub eq_self : (n : ℕ) → (n == n) ≡ true
eq_self n = eq-eqb n n refl

module _ {X : Type 0} (f : ℕ → X) (k : ℕ) (x : X) where
  pub put_here : put f k x k ≡ x
  put_here = rw (eq_self k) refl

  pub put_else : (j : ℕ) → j ≢ k → put f k x j ≡ f j
  put_else j ne = rw (ne_eqb j k ne) refl

  -- what holds of the new value at its place, and of the old ones elsewhere, holds of all
  pub put_all : (P : ℕ → X → Type 0) → P k x → ((j : ℕ) → j ≢ k → P j (f j)) → (j : ℕ) → P j (put f k x j)
  put_all P here there j = grind arith

-- ---- functions of passes and brooms
name_self : (n : Name) → same_name n n ≡ true
name_self n = grind arith

names_apart : (n m : Name) → ¬ (n ≡ m) → same_name n m ≡ false
names_apart n m apart = grind arith

module _ {X : Type 0} (f : Name → X) (n : Name) (x : X) where
  pub name_here : put_name f n x n ≡ x
  name_here = rw (name_self n) refl

  pub name_else : (m : Name) → ¬ (m ≡ n) → put_name f n x m ≡ f m
  name_else m apart = rw (names_apart m n apart) refl

  -- what holds of the new value for its name, and of the old ones for others, holds of all
  pub name_all : (P : Name → X → Type 0) → P n x → ((m : Name) → ¬ (m ≡ n) → P m (f m)) → (m : Name) → P m (put_name f n x m)
  name_all P here there m = grind arith

-- the total after a change of one view
pub total_set : (f : View → ℕ) (vs : List View) (id : ℕ) (v w : View) → get_elem? vs id ≡ some v → total f (set vs id w) + f v ≡ total f vs + f w
total_set f [] id v w at = absurd (some-ne-none v (sym at))
total_set f (x ∷ xs) zero v w at = let e : f x ≡ f v = ap f (some-injective x v at) in omega arith
total_set f (x ∷ xs) (suc id) v w at = let r = total_set f xs id v w at in omega arith

pub seat_set : (vs : List View) (id : ℕ) (v w : View) → get_elem? vs id ≡ some v → get_elem? (set vs id w) id ≡ some w
seat_set [] id v w at = absurd (some-ne-none v (sym at))
seat_set (x ∷ xs) zero v w at = refl
seat_set (x ∷ xs) (suc id) v w at = seat_set xs id v w at

-- ---- roles
pub player_same : (n m : Name) → Player n ≡ Player m → n ≡ m
player_same n m e = cc

pub player_of : (r : Role) → is_player r ≡ true → (n : Name) × (r ≡ Player n)
player_of r is = grind arith

pub player_live : (r : Role) → is_player r ≡ true → is_live_role r ≡ true
player_live r is = ap is_live_role (player_of r is).1

pub broom_of : (r : Role) → is_broom r ≡ true → (i : ℕ) × (r ≡ Player (Broom i))
broom_of r is = grind arith

pub broom_player : (r : Role) → is_broom r ≡ true → is_player r ≡ true
broom_player r is = ap is_player (broom_of r is).1

pub broom_live : (r : Role) → is_broom r ≡ true → is_live_role r ≡ true
broom_live r is = ap is_live_role (broom_of r is).1

pub may_own_else : (r : Role) → ¬ (may_own r ≡ false) → may_own r ≡ true
may_own_else r owns = grind arith

pub owner_live : (r : Role) → ¬ (may_own r ≡ false) → is_live_role r ≡ true
owner_live r owns = grind arith

-- ---- phases
pub phase_or_not : (f e : Phase) → (f ≡ e) ⊎ (¬ (f ≡ e))
phase_or_not f e = grind arith
