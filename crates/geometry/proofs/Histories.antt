-- Laws of histories: one more call, and what the last call of a sector leaves there.
use Rattle.std.proofs.Common.{◌≡◌, ℕ, ◌<◌, ◌≢◌, List, [], ◌∷◌, ◌++◌, None, Some, zero, suc, length, replicate, refl, sym, ◌∙◌, ap, arith, append_assoc}
use Rattle.std.{proofs.Common.append-nil, proofs.Math.ListN.get_or, proofs.Math.ListN.length-set, specs.List.fold}
use Rattle.std.proofs.lemmas.List.{get_or-set_same, get_or-set_other, length-replicate, Sums.fold_push}
use Rattle.geometry.specs.Sectors.{Sector, sector_at}
use Rattle.geometry.specs.History.{Call, Write, WriteNew, Trim, put_new, step, after, held, Begins}

-- one more call is one more step
pub after_push : (n : ℕ) (h : List Call) (c : Call) → after n (h ++ c ∷ []) ≡ step (after n h) c
after_push n h c = fold_push step (replicate n None) h c

length-put_new : (a : List Sector) (s : ℕ) (x : Sector) (v : List ℕ) → length (put_new a s x v) ≡ length a
length-put_new a s None v = length-set a s (Some v)
length-put_new a s (Some w) v = refl

pub length-step : (a : List Sector) (c : Call) → length (step a c) ≡ length a
length-step a (Write pass s v) = length-set a s (Some v)
length-step a (WriteNew pass s v) = length-put_new a s (sector_at a s) v
length-step a (Trim pass s) = length-set a s None

pub length-fold_step : (a : List Sector) (h : List Call) → length (fold step a h) ≡ length a
length-fold_step a [] = refl
length-fold_step a (c ∷ h) = length-fold_step (step a c) h ∙ length-step a c

-- the array keeps its length
pub length-after : (n : ℕ) (h : List Call) → length (after n h) ≡ n
length-after n h = length-fold_step (replicate n None) h ∙ length-replicate n None

-- a write leaves its value at its sector
pub held_written : (n : ℕ) (h : List Call) (pass s : ℕ) (v : List ℕ) → s < n → held n (h ++ Write pass s v ∷ []) s ≡ Some v
held_written n h pass s v low =
    let room : s < length (after n h) = omega (arith, length-after n h) in
    ap (λ a. get_or a s None) (after_push n h (Write pass s v)) ∙ get_or-set_same (after n h) s (Some v) None room

-- a trim leaves its sector empty
pub held_trimmed : (n : ℕ) (h : List Call) (pass s : ℕ) → s < n → held n (h ++ Trim pass s ∷ []) s ≡ None
held_trimmed n h pass s low =
    let room : s < length (after n h) = omega (arith, length-after n h) in
    ap (λ a. get_or a s None) (after_push n h (Trim pass s)) ∙ get_or-set_same (after n h) s None None room

-- a write of an empty sector leaves its value where the sector is empty
pub held_new : (n : ℕ) (h : List Call) (pass s : ℕ) (v : List ℕ) → s < n → held n h s ≡ None → held n (h ++ WriteNew pass s v ∷ []) s ≡ Some v
held_new n h pass s v low empty =
    let room : s < length (after n h) = omega (arith, length-after n h) in
    ap (λ a. get_or a s None) (after_push n h (WriteNew pass s v))
    ∙ (ap (λ x. get_or (put_new (after n h) s x v) s None) empty ∙ get_or-set_same (after n h) s (Some v) None room)

-- and changes nothing where it is written
pub after_refused : (n : ℕ) (h : List Call) (pass s : ℕ) (v old : List ℕ) → held n h s ≡ Some old → after n (h ++ WriteNew pass s v ∷ []) ≡ after n h
after_refused n h pass s v old written = after_push n h (WriteNew pass s v) ∙ ap (λ x. put_new (after n h) s x v) written

-- a write leaves every other sector
pub held_by_write : (n : ℕ) (h : List Call) (pass s : ℕ) (v : List ℕ) (other : ℕ) → other ≢ s → held n (h ++ Write pass s v ∷ []) other ≡ held n h other
held_by_write n h pass s v other apart =
    ap (λ a. get_or a other None) (after_push n h (Write pass s v)) ∙ get_or-set_other (after n h) s other (Some v) None apart

-- so does a write of an empty sector
pub held_by_new : (n : ℕ) (h : List Call) (pass s : ℕ) (v : List ℕ) (other : ℕ) → other ≢ s → held n (h ++ WriteNew pass s v ∷ []) other ≡ held n h other
held_by_new n h pass s v other apart = ap (λ a. get_or a other None) (after_push n h (WriteNew pass s v)) ∙ by_sector (held n h s) where
  by_sector : (x : Sector) → get_or (put_new (after n h) s x v) other None ≡ get_or (after n h) other None
  by_sector None = get_or-set_other (after n h) s other (Some v) None apart
  by_sector (Some w) = refl

-- and so does a trim
pub held_by_trim : (n : ℕ) (h : List Call) (pass s other : ℕ) → other ≢ s → held n (h ++ Trim pass s ∷ []) other ≡ held n h other
held_by_trim n h pass s other apart =
    ap (λ a. get_or a other None) (after_push n h (Trim pass s)) ∙ get_or-set_other (after n h) s other None None apart

-- before the first call every sector is empty
pub held_at_first : (n s : ℕ) → held n [] s ≡ None
held_at_first zero s = refl
held_at_first (suc n) zero = refl
held_at_first (suc n) (suc s) = held_at_first n s

pub Begins-refl : {X : Type 0} (k : List X) → Begins k k
Begins-refl k = ([], append-nil k)

pub Begins-push : {X : Type 0} (k : List X) (x : X) → Begins k (k ++ x ∷ [])
Begins-push k x = (x ∷ [], refl)

pub Begins-trans : {X : Type 0} (k l m : List X) → Begins k l → Begins l m → Begins k m
Begins-trans k l m a b = (a.0 ++ b.0, sym (append_assoc k a.0 b.0) ∙ (ap (λ x. x ++ b.0) a.1 ∙ b.1))
