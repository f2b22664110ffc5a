-- What a mount's counts of gaps say of the flash.
use Rattle.std.proofs.Common.{◌≡◌, ◌⊎◌, inl, inr, ⊎_elim, ◌<◌, ◌≤◌, ◌||◌, ◌==◌, ℕ, zero, suc, Bool, true, false, List, [], ◌∷◌, length, Option, None}
use Rattle.std.proofs.Common.{Some, get_or, refl, sym, ◌∙◌, ap, subst, arith, if◌then◌else◌}
use Rattle.std.proofs.lemmas.Bool.{cases_eq, cases_lt, false≢true}
use Rattle.std.proofs.lemmas.Bool.Decides.{nat_tests}
use Rattle.geometry.specs.Sectors.{Sector}
use Rattle.durable.specs.Flash.{PageContents, Erased, Torn, Version, Flash}
use Rattle.durable.specs.declared.found.Candidate.{Candidate}
use Rattle.durable.specs.declared.extent.Extent.{Extent}
use Rattle.durable.specs.Losses.{version_count, versions_before, gaps_with, gaps_before, IsGapless, gaps_in, has_gap, is_at, has_found, losses_in}

or_right : (k j : Bool) → j ≡ true → (k || j) ≡ true
or_right true j is = refl
or_right false j is = is

-- a block has a page that was found
pub found_has : (b : ℕ) (found : List (Option Candidate)) (s : ℕ) → s < length found → is_at b (get_or found s None) ≡ true → has_found b found ≡ true
found_has b [] s lt is = absurd (omega (arith, lt))
found_has b (x ∷ found) zero lt is = ap (λ (k : Bool). k || has_found b found) is
found_has b (x ∷ found) (suc s) lt is = or_right (is_at b x) (has_found b found) (found_has b found s (omega (arith, lt)) is)

pub none_has : (b : ℕ) (found : List (Option Candidate)) → ((s : ℕ) → s < length found → is_at b (get_or found s None) ≡ false) → has_found b found ≡ false
none_has b [] none = refl
none_has b (x ∷ found) none =
    let rest = none_has b found (λ s lt. none (suc s) (omega (arith, lt))) in
    λ i. none zero (omega arith) i || rest i

-- the page that a block has
pub has_of : (b : ℕ) (found : List (Option Candidate)) → has_found b found ≡ true
    → (s : ℕ) × (x : Candidate) × (s < length found) × (get_or found s None ≡ Some x) × (x.at.block ≡ b)
has_of b [] is = absurd (false≢true is)
has_of b (None ∷ found) is =
    let there = has_of b found is in
    (suc there.0, there.1, omega (arith, there.2), there.3, there.4)
has_of b (Some x ∷ found) is = ⊎_elim
    (λ here. (zero, x, omega arith, refl, here))
    (λ differs.
    let not_here : (x.at.block == b) ≡ false = grind (arith, nat_tests) in
    let there = has_of b found (ap (λ (k : Bool). k || has_found b found) (sym not_here) ∙ is) in
    (suc there.0, there.1, omega (arith, there.2), there.3, there.4))
    (cases_eq x.at.block b)

pub at_is : (b : ℕ) (x : Candidate) → x.at.block ≡ b → is_at b (Some x) ≡ true
at_is b x is = grind (arith, nat_tests)

pub no_gap : (gaps : List ℕ) (b : ℕ) → has_gap gaps b ≡ false → gaps_in gaps b ≡ 0
no_gap gaps b is = ⊎_elim
    (λ some. let true_is : has_gap gaps b ≡ true = grind (arith, nat_tests) in absurd (false≢true (sym is ∙ true_is)))
    (λ none. omega (arith, none))
    (cases_lt 0 (gaps_in gaps b))

pub none_has_gap : (gaps : List ℕ) (b : ℕ) → gaps_in gaps b ≡ 0 → has_gap gaps b ≡ false
none_has_gap gaps b none = grind (arith, nat_tests)

pub some_gap : (gaps : List ℕ) (b : ℕ) → has_gap gaps b ≡ true → 0 < gaps_in gaps b
some_gap gaps b is = ⊎_elim
    (λ some. some)
    (λ none. let false_is : has_gap gaps b ≡ false = grind (arith, nat_tests) in absurd (false≢true (sym false_is ∙ is)))
    (cases_lt 0 (gaps_in gaps b))

chosen : (k : Bool) (n : ℕ) → k ≡ true → (if k then n else 0) ≡ n
chosen true n is = refl
chosen false n is = absurd (false≢true is)

not_chosen : (k : Bool) (n : ℕ) → (k ≡ true → n ≡ 0) → (if k then n else 0) ≡ 0
not_chosen true n none = none refl
not_chosen false n none = refl

-- no losses: each block with a page that was found has no gap
pub none_lost : (found : List (Option Candidate)) (gaps : List ℕ) (n : ℕ) → losses_in found gaps n ≡ 0
    → (b : ℕ) → b < n → has_found b found ≡ true → gaps_in gaps b ≡ 0
none_lost found gaps zero is b lt has = absurd (omega (arith, lt))
none_lost found gaps (suc n) is b lt has = ⊎_elim
    (λ here.
    let all = chosen (has_found n found) (gaps_in gaps n) (subst (λ (k : ℕ). has_found k found ≡ true) here has) in
    subst (λ (k : ℕ). gaps_in gaps k ≡ 0) (sym here) (omega (arith, is, all)))
    (λ differs. none_lost found gaps n (omega (arith, is)) b (omega (arith, lt, differs)) has)
    (cases_eq b n)

pub all_whole : (found : List (Option Candidate)) (gaps : List ℕ) (n : ℕ)
    → ((b : ℕ) → b < n → has_found b found ≡ true → gaps_in gaps b ≡ 0) → losses_in found gaps n ≡ 0
all_whole found gaps zero none = refl
all_whole found gaps (suc n) none =
    let before = all_whole found gaps n (λ b lt has. none b (omega (arith, lt)) has) in
    let here = not_chosen (has_found n found) (gaps_in gaps n) (none n (omega arith)) in
    omega (arith, before, here)

-- versions and gaps of a block
one_at_most : (c : PageContents) → version_count c ≤ 1
one_at_most (Version s n v) = omega arith
one_at_most Erased = omega arith
one_at_most Torn = omega arith

versions_most : (f : Flash) (b p : ℕ) → versions_before f b p ≤ p
versions_most f b zero = omega arith
versions_most f b (suc p) = omega (arith, versions_most f b p, one_at_most (f b p))

all_versions : (f : Flash) (b n : ℕ) → n ≤ versions_before f b n → (p : ℕ) → p < n → version_count (f b p) ≡ 1
all_versions f b zero full p lt = absurd (omega (arith, lt))
all_versions f b (suc n) full p lt = ⊎_elim
    (λ here. subst (λ (k : ℕ). version_count (f b k) ≡ 1) (sym here) (omega (arith, full, versions_most f b n, one_at_most (f b n))))
    (λ differs. all_versions f b n (omega (arith, full, one_at_most (f b n))) p (omega (arith, lt, differs)))
    (cases_eq p n)

all_counted : (f : Flash) (b n : ℕ) → ((p : ℕ) → p < n → version_count (f b p) ≡ 1) → versions_before f b n ≡ n
all_counted f b zero all = refl
all_counted f b (suc n) all =
    let before = all_counted f b n (λ p lt. all p (omega (arith, lt))) in
    omega (arith, before, all n (omega arith))

version_is : (c : PageContents) (s : Extent) (m : ℕ) (v : Sector) → c ≡ Version s m v → version_count c ≡ 1
version_is c s m v is = ap version_count is

-- the gaps after one page more are none: all before it have versions, or it has none and there were no gaps before
step_none : (f : Flash) (b n : ℕ) (c : PageContents) → f b n ≡ c → gaps_with c n (versions_before f b n) (gaps_before f b n) ≡ 0
    → ((p : ℕ) → p < n → version_count (f b p) ≡ 1) ⊎ ((gaps_before f b n ≡ 0) × (version_count (f b n) ≡ 0))
step_none f b n (Version s m v) is none = inl (all_versions f b n (omega (arith, none)))
step_none f b n Erased is none = inr (none, ap version_count is)
step_none f b n Torn is none = inr (none, ap version_count is)

pub none_whole : (f : Flash) (b n : ℕ) → gaps_before f b n ≡ 0 → (p q : ℕ) (s : Extent) (m : ℕ) (v : Sector) → p < q → q < n → f b q ≡ Version s m v
    → version_count (f b p) ≡ 1
none_whole f b zero none p q s m v lt within is = absurd (omega (arith, within))
none_whole f b (suc n) none p q s m v lt within is = ⊎_elim
    (λ all. all p (omega (arith, lt, within)))
    (λ old. ⊎_elim
    (λ here. let one = version_is (f b n) s m v (subst (λ (k : ℕ). f b k ≡ Version s m v) here is) in absurd (omega (arith, one, old.1)))
    (λ differs. none_whole f b n old.0 p q s m v lt (omega (arith, within, differs)) is)
    (cases_eq q n))
    (step_none f b n (f b n) refl none)

step_whole : (f : Flash) (b n : ℕ) (c : PageContents) → f b n ≡ c → IsGapless f b → gaps_before f b n ≡ 0
    → gaps_with c n (versions_before f b n) (gaps_before f b n) ≡ 0
step_whole f b n (Version s m v) is whole before =
    let all = all_counted f b n (λ p lt. whole p n s m v lt is) in omega (arith, all)
step_whole f b n Erased is whole before = before
step_whole f b n Torn is whole before = before

pub whole_none : (f : Flash) (b n : ℕ) → IsGapless f b → gaps_before f b n ≡ 0
whole_none f b zero whole = refl
whole_none f b (suc n) whole = step_whole f b n (f b n) refl whole (whole_none f b n whole)
