-- What one sector holds, as a fold of its own over the calls of a history.
use Rattle.std.proofs.Common.{◌≡◌, ℕ, ◌<◌, All, List, [], ◌∷◌, ◌++◌, None, Some, eq-eqb, ne_eqb, length, refl, sym, ap, ◌∙◌, arith}
use Rattle.std.specs.{Prelude.◌==◌, Prelude.if◌then◌else◌, Prelude.slice_set, List.fold}
use Rattle.std.proofs.lemmas.List.{get_or-set_same, get_or-set_other, Elements.All-head, Elements.All-tail, Sums.fold-append}
use mathlib.Core.Logic.{dite}
use native.Mathlib.Decide.{ℕ_discrete}
use Rattle.geometry.specs.History.{Call, Write, WriteNew, Trim, put_new, step, after, held}
use Rattle.geometry.{specs.Sectors.Sector, specs.Sectors.sector_at, proofs.Histories.length-after, proofs.Histories.length-step}
use Rattle.flash_rule.specs.Views.{caller, calls_of}

-- the sector that a call is for
abbrev pub target : Call → ℕ
target (Write t s v) = s
target (WriteNew t s v) = s
target (Trim t s) = s

-- what a call leaves at its sector
abbrev pub effect : Call → Sector → Sector
effect (Write t s v) old = Some v
effect (WriteNew t s v) None = Some v
effect (WriteNew t s v) (Some w) = Some w
effect (Trim t s) old = None

-- what a call leaves at any sector
abbrev pub effect_at : ℕ → Call → Sector → Sector
effect_at s c old = if target c == s then effect c old else old

-- what a sector holds after calls
abbrev pub content : ℕ → Sector → List Call → Sector
content s old [] = old
content s old (c ∷ cs) = content s (effect_at s c old) cs

-- one call is a step of each sector: the one proof that looks at the kinds of calls
pub step_at : (a : List Sector) (c : Call) (s : ℕ) → s < length a → sector_at (step a c) s ≡ effect_at s c (sector_at a s)
step_at a (Write t r v) s low =
    dite (ℕ_discrete r s)
    (λ same. rw (eq-eqb r s same) (ap (λ k. sector_at (step a (Write t k v)) s) same ∙ get_or-set_same a s (Some v) None low))
    (λ other. rw (ne_eqb r s other) (get_or-set_other a r s (Some v) None (λ e. other (sym e))))
step_at a (WriteNew t r v) s low = by_sector (sector_at a r) refl where
  by_sector : (x : Sector) → sector_at a r ≡ x → sector_at (put_new a r x v) s ≡ effect_at s (WriteNew t r v) (sector_at a s)
  by_sector None is =
      dite (ℕ_discrete r s)
      (λ same. rw (eq-eqb r s same)
      (ap (λ k. sector_at (slice_set a k (Some v)) s) same
      ∙ (get_or-set_same a s (Some v) None low ∙ ap (effect (WriteNew t r v)) (sym is ∙ ap (sector_at a) same))))
      (λ other. rw (ne_eqb r s other) (get_or-set_other a r s (Some v) None (λ e. other (sym e))))
  by_sector (Some w) is =
      dite (ℕ_discrete r s)
      (λ same. rw (eq-eqb r s same) (sym (ap (sector_at a) same) ∙ (is ∙ ap (effect (WriteNew t r v)) (sym is ∙ ap (sector_at a) same))))
      (λ other. rw (ne_eqb r s other) refl)
step_at a (Trim t r) s low =
    dite (ℕ_discrete r s)
    (λ same. rw (eq-eqb r s same) (ap (λ k. sector_at (step a (Trim t k)) s) same ∙ get_or-set_same a s None None low))
    (λ other. rw (ne_eqb r s other) (get_or-set_other a r s None None (λ e. other (sym e))))

content_fold : (a : List Sector) (cs : List Call) (s : ℕ) → s < length a → sector_at (fold step a cs) s ≡ content s (sector_at a s) cs
content_fold a [] s low = refl
content_fold a (c ∷ cs) s low = content_fold (step a c) cs s (omega (arith, length-step a c)) ∙ ap (λ x. content s x cs) (step_at a c s low)

-- a sector after more calls
pub held-append : (n s : ℕ) → s < n → (h k : List Call) → held n (h ++ k) s ≡ content s (held n h s) k
held-append n s low h k = ap (λ a. sector_at a s) (fold-append step (after n []) h k) ∙ content_fold (after n h) k s (omega (arith, length-after n h))

-- the calls for a sector are of one host
abbrev pub AreBy : ℕ → ℕ → List Call → Type 0
AreBy s t cs = All (λ c. target c ≡ s → caller c ≡ t) cs

-- where one host alone calls a sector, its calls alone tell what the sector holds
pub content_own : (s t : ℕ) (old : Sector) (cs : List Call) → AreBy s t cs → content s old cs ≡ content s old (calls_of t cs)
content_own s t old [] by = refl
content_own s t old (c ∷ cs) by =
    let there = All-tail (λ c. target c ≡ s → caller c ≡ t) c cs by in
    dite (ℕ_discrete (caller c) t)
    (λ same. rw (eq-eqb (caller c) t same) (content_own s t (effect_at s c old) cs there))
    (λ other.
    let away : ¬ (target c ≡ s) = λ here. other (All-head (λ c. target c ≡ s → caller c ≡ t) c cs by here) in
    rw (ne_eqb (caller c) t other) (rw (ne_eqb (target c) s away) (content_own s t old cs there)))
