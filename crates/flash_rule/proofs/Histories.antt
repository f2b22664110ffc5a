-- The calls of each host in a history that only grows: where no host has made a call in between, two histories are one.
use Rattle.flash_rule.proofs.Words.{◌≡◌, ℕ, ◌<◌, eq-eqb, List, [], ◌∷◌, ◌++◌, length, sym, refl, ap, ◌∙◌, subst, arith, length-append, All-nil}
use Rattle.flash_rule.proofs.Words.{Call, Begins, caller, calls_of}
use Rattle.std.{proofs.Common.append-nil, specs.Prelude.All}
use Rattle.std.proofs.lemmas.List.{append_cancel_left, nil_from_length, Elements.All-head, Elements.All-tail, Elements.All-cons}

-- a pass's calls in two parts of a history
pub calls_of-append : (t : ℕ) (h k : List Call) → calls_of t (h ++ k) ≡ calls_of t h ++ calls_of t k
calls_of-append t [] k = grind arith
calls_of-append t (c ∷ h) k = grind (arith, calls_of-append t h k)

-- a pass's calls grow with the history
pub calls_grow : (t : ℕ) (h k : List Call) → Begins h k → Begins (calls_of t h) (calls_of t k)
calls_grow t h k b = (calls_of t b.0, sym (calls_of-append t h b.0) ∙ ap (calls_of t) b.1)

-- a list between two that are equal is that list
pub between : {X : Type 0} (k l m : List X) → Begins k l → Begins l m → k ≡ m → l ≡ k
between k l m a b same =
    grind (arith, nil_from_length, length-append, append-nil, ap (length {A = _}) a.1, ap (length {A = _}) b.1, ap (length {A = _}) same)

-- what a pass has called by the first and by the last of three histories, it has called by the one in the middle
pub squeezed : (t : ℕ) (h k l mine : List Call) → Begins h k → Begins k l → calls_of t h ≡ mine → calls_of t l ≡ mine → calls_of t k ≡ mine
squeezed t h k l mine a b first last =
    between (calls_of t h) (calls_of t k) (calls_of t l) (calls_grow t h k a) (calls_grow t k l b) (first ∙ sym last) ∙ first

-- calls of hosts of which each host has none are none
pub nobody : (hosts : ℕ) (l : List Call) → All (λ c. caller c < hosts) l → ((t : ℕ) → t < hosts → calls_of t l ≡ []) → l ≡ []
nobody hosts [] callers none = refl
nobody hosts (c ∷ l) callers none =
    let mine = none (caller c) (All-head (λ x. caller x < hosts) c l callers) in
    let some : c ∷ calls_of (caller c) l ≡ [] = rw (eq-eqb (caller c) (caller c) refl) at mine in
    absurd (cc)

-- the callers of the rest of a history
pub rest_callers : (hosts : ℕ) (k l : List Call) → All (λ c. caller c < hosts) (k ++ l) → All (λ c. caller c < hosts) l
rest_callers hosts [] l callers = callers
rest_callers hosts (c ∷ k) l callers = rest_callers hosts k l (All-tail (λ x. caller x < hosts) c (k ++ l) callers)

-- where no host has called in between, nothing has changed
pub still : (hosts : ℕ) (k l : List Call) → Begins k l → All (λ c. caller c < hosts) l → ((t : ℕ) → t < hosts → calls_of t l ≡ calls_of t k) → l ≡ k
still hosts k l b callers same =
    let rest : All (λ c. caller c < hosts) b.0 = rest_callers hosts k b.0 (subst (λ x. All (λ c. caller c < hosts) x) (sym b.1) callers) in
    let none : b.0 ≡ [] = nobody hosts b.0 rest
    (λ t low. append_cancel_left (calls_of t k) (calls_of t b.0) []
    (sym (calls_of-append t k b.0) ∙ (ap (calls_of t) b.1 ∙ (same t low ∙ sym (append-nil (calls_of t k)))))) in
    sym b.1 ∙ (ap (λ x. k ++ x) none ∙ append-nil k)

-- the callers of the first part of a history
pub first_callers : (hosts : ℕ) (k l : List Call) → All (λ c. caller c < hosts) (k ++ l) → All (λ c. caller c < hosts) k
first_callers hosts [] l callers = All-nil (λ c. caller c < hosts)
first_callers hosts (c ∷ k) l callers =
    All-cons (λ c. caller c < hosts) c k (All-head (λ c. caller c < hosts) c (k ++ l) callers)
    (first_callers hosts k l (All-tail (λ c. caller c < hosts) c (k ++ l) callers))

-- the callers of a beginning of a history
pub callers_before : (hosts : ℕ) (k l : List Call) → Begins k l → All (λ c. caller c < hosts) l → All (λ c. caller c < hosts) k
callers_before hosts k l b callers = first_callers hosts k b.0 (subst (λ x. All (λ c. caller c < hosts) x) (sym b.1) callers)
