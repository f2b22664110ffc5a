-- How many sectors are kept in a block.
use Rattle.std.proofs.Common.{◌≡◌, ◌≢◌, ◌⊎◌, inl, inr, ⊎_elim, ◌+◌, ◌-◌, ◌*◌, ◌<◌, ◌≤◌, ℕ, zero, suc, List, [], ◌∷◌, length, Option, None, Some}
use Rattle.std.proofs.Common.{get_or, set, take, add-one, refl, ap, subst, arith}
use Rattle.std.proofs.lemmas.Bool.{cases_eq, cases_lt}
use Rattle.std.proofs.lemmas.Bool.Decides.{nat_tests}
use Rattle.geometry.specs.declared.page_addr.PageAddr.{PageAddr}
use Rattle.durable.specs.Collecting.{IsFree, weight, live_in}

pub weight_here : (b : ℕ) (at : PageAddr) → at.block ≡ b → weight b (Some at) ≡ 1
weight_here b at is = grind (arith, nat_tests)

pub weight_elsewhere : (b : ℕ) (at : PageAddr) → at.block ≢ b → weight b (Some at) ≡ 0
weight_elsewhere b at differs = grind (arith, nat_tests)

pub weight_most : (b : ℕ) (k : Option PageAddr) → weight b k ≤ 1
weight_most b None = omega arith
weight_most b (Some at) = ⊎_elim (λ is. omega (arith, weight_here b at is)) (λ differs. omega (arith, weight_elsewhere b at differs)) (cases_eq at.block b)

pub kept_in_set : (b : ℕ) (kept : List (Option PageAddr)) (s : ℕ) (x : Option PageAddr) → s < length kept
    → live_in b (set kept s x) + weight b (get_or kept s None) ≡ live_in b kept + weight b x
kept_in_set b [] s x lt = absurd (omega arith)
kept_in_set b (k ∷ kept) zero x lt = omega arith
kept_in_set b (k ∷ kept) (suc s) x lt = let more = kept_in_set b kept s x (omega arith) in omega (arith, more)

pub weight_in : (b : ℕ) (kept : List (Option PageAddr)) (s : ℕ) → s < length kept → weight b (get_or kept s None) ≤ live_in b kept
weight_in b [] s lt = absurd (omega arith)
weight_in b (k ∷ kept) zero lt = omega arith
weight_in b (k ∷ kept) (suc s) lt = let more = weight_in b kept s (omega arith) in omega (arith, more)

pub kept_in_more : (b : ℕ) (kept : List (Option PageAddr)) (s : ℕ) → s < length kept → live_in b (take (suc s) kept) ≡ live_in b (take s kept) + weight b
    (get_or kept s None)
kept_in_more b [] s lt = absurd (omega arith)
kept_in_more b (k ∷ kept) zero lt = omega arith
kept_in_more b (k ∷ kept) (suc s) lt = let more = kept_in_more b kept s (omega arith) in omega (arith, more)

-- a sector that is kept there counts
pub kept_there : (b : ℕ) (kept : List (Option PageAddr)) (s : ℕ) (at : PageAddr) → s < length kept → get_or kept s None ≡ Some at → at.block ≡ b
    → 0 < live_in b kept
kept_there b kept s at lt is here = omega (arith, weight_in b kept s lt, ap (weight b) is, weight_here b at here)

-- none is kept, so none is counted; and the other way round
pub none_counted : (b : ℕ) (kept : List (Option PageAddr)) → IsFree kept b → live_in b kept ≡ 0
none_counted b [] none = refl
none_counted b (None ∷ kept) none = let rest = none_counted b kept (λ s at lt is. none (suc s) at (omega arith) is) in omega (arith, rest)
none_counted b (Some at ∷ kept) none =
    let rest = none_counted b kept (λ s at lt is. none (suc s) at (omega arith) is) in
    omega (arith, rest, weight_elsewhere b at (none zero at (omega arith) refl))

pub counted_none : (b : ℕ) (kept : List (Option PageAddr)) → live_in b kept ≡ 0 → IsFree kept b
counted_none b kept zero_kept = λ s at lt is here. omega (arith, zero_kept, kept_there b kept s at lt is here)

-- how many are kept in the blocks below one
below : ℕ → List (Option PageAddr) → ℕ
below zero kept = 0
below (suc n) kept = below n kept + live_in n kept

weight_below : ℕ → Option PageAddr → ℕ
weight_below zero k = 0
weight_below (suc n) k = weight_below n k + weight n k

weight_below_none : (n : ℕ) → weight_below n None ≡ 0
unfolding weight_below
weight_below_none zero = refl
weight_below_none (suc n) = omega (arith, weight_below_none n)

weight_below_far : (n : ℕ) (at : PageAddr) → n ≤ at.block → weight_below n (Some at) ≡ 0
unfolding weight_below
weight_below_far zero at le = refl
weight_below_far (suc n) at le = omega (arith, weight_below_far n at (omega arith), weight_elsewhere n at (λ e. omega (arith, e, le)))

weight_below_most : (n : ℕ) (k : Option PageAddr) → weight_below n k ≤ 1
unfolding weight_below
weight_below_most n None = omega (arith, weight_below_none n)
weight_below_most zero (Some at) = omega arith
weight_below_most (suc n) (Some at) = ⊎_elim
    (λ is. omega (arith, weight_below_far n at (omega (arith, is)), weight_here n at is))
    (λ differs. omega (arith, weight_below_most n (Some at), weight_elsewhere n at differs))
    (cases_eq at.block n)

below_nil : (n : ℕ) → below n [] ≡ 0
unfolding below
below_nil zero = refl
below_nil (suc n) = omega (arith, below_nil n)

below_cons : (n : ℕ) (k : Option PageAddr) (kept : List (Option PageAddr)) → below n (k ∷ kept) ≡ weight_below n k + below n kept
unfolding below weight_below
below_cons zero k kept = refl
below_cons (suc n) k kept = omega (arith, below_cons n k kept)

below_most : (n : ℕ) (kept : List (Option PageAddr)) → below n kept ≤ length kept
below_most n [] = omega (arith, below_nil n)
below_most n (k ∷ kept) = omega (arith, below_cons n k kept, weight_below_most n k, below_most n kept)

-- either a block other than b keeps fewer than the pages, or the blocks together keep as many as all but one have
found_or_full : (n pages b : ℕ) (kept : List (Option PageAddr))
    → ((d : ℕ) × (d < n) × (d ≢ b) × (live_in d kept < pages)) ⊎ ((n ≤ b → n * pages ≤ below n kept) × (n * pages ≤ below n kept + pages))
unfolding below
found_or_full zero pages b kept = inr ((λ _. omega arith), omega arith)
found_or_full (suc n) pages b kept = ⊎_elim
    (λ found. inl (found.0, omega (arith, found.1), found.2, found.3))
    (λ full. ⊎_elim
    (λ is. inr ((λ le. absurd (omega (arith, le, is))), omega (arith, full.0 (omega (arith, is)))))
    (λ differs. ⊎_elim
    (λ fewer. inl (n, omega arith, differs, fewer))
    (λ many. inr ((λ le. omega (arith, full.0 (omega (arith, le)), many)), omega (arith, full.1, many)))
    (cases_lt (live_in n kept) pages))
    (cases_eq n b))
    (found_or_full n pages b kept)

-- the pigeonhole principle: some block other than b keeps fewer than the pages
pub other_has_room : (blocks pages b : ℕ) (kept : List (Option PageAddr)) → length kept < (blocks - 1) * pages → (d : ℕ) × (d < blocks) × (d ≢ b) ×
    (live_in d kept < pages)
other_has_room zero pages b kept few = absurd (omega (arith, few))
other_has_room (suc n) pages b kept few =
    let e : suc n - 1 ≡ n = omega arith in
    let short = subst (λ (m : ℕ). length kept < m * pages) e few in
    ⊎_elim (λ found. found) (λ full. absurd (omega (arith, short, full.1, below_most (suc n) kept))) (found_or_full (suc n) pages b kept)

-- the step of a count
pub counted_next : (b : ℕ) (kept : List (Option PageAddr)) (s : ℕ) → s < length kept
    → live_in b (take (s + 1) kept) ≡ live_in b (take s kept) + weight b (get_or kept s None)
counted_next b kept s lt = rw add-one (kept_in_more b kept s lt)

-- a block has at most as many live pages as there are sectors
pub live_most : (b : ℕ) (kept : List (Option PageAddr)) → live_in b kept ≤ length kept
live_most b [] = omega arith
live_most b (k ∷ kept) = omega (arith, weight_most b k, live_most b kept)

pub live_take : (b : ℕ) (kept : List (Option PageAddr)) (s : ℕ) → live_in b (take s kept) ≤ length kept
live_take b [] zero = omega arith
live_take b [] (suc s) = omega arith
live_take b (k ∷ kept) zero = omega arith
live_take b (k ∷ kept) (suc s) = omega (arith, weight_most b k, live_take b kept s)
