-- Numbers in groups: what is kept where.
use Rattle.std.proofs.Common.{◌≡◌, ◌≢◌, ℕ, zero, suc, ◌+◌, ◌-◌, ◌*◌, ◌<◌, ◌≤◌, ◌/◌, ◌%◌, ◌++◌, List, [], ◌∷◌, length, get_or, set, replicate}
use Rattle.std.proofs.Common.{refl, sym, ◌∙◌, ap, ap₂, subst, arith, ⊎_elim, take, Result, Ok, Err, is_ok, IsOk, if◌then◌else◌}
use Rattle.std.proofs.lemmas.Bool.{cases_eq, false≢true}
use Rattle.std.proofs.lemmas.Bool.Decides.{nat_tests}
use Rattle.std.proofs.lemmas.List.{get_or_append_left, get_or-set_same, get_or-set_other}
use Rattle.std.proofs.lemmas.List.{get_or-replicate, length-set, length-append, length-replicate, take_all}
use Rattle.packed_map.specs.Groups.{number_at, share, shared_in, AreGrouped}
use Rattle.packed_map.specs.Parts.{values_of}
use Rattle.packed_map.proofs.Parts.{values_get, values_zero, zeros_at}

-- at first each number is 0
first_number : (groups i : ℕ) → number_at (replicate {A = ℕ} groups 0) (replicate {A = ℕ} 256 0) i ≡ 0
first_number groups i = zeros_at 256 (get_or {A = ℕ} (replicate {A = ℕ} groups 0) (i / 256) 0 * 256 + i % 256)

pub first_numbers : (groups n : ℕ) → values_of (number_at (replicate groups 0) (replicate 256 0)) n ≡ replicate n 0
first_numbers groups n = values_zero (number_at (replicate {A = ℕ} groups 0) (replicate {A = ℕ} 256 0)) n (first_number groups)

share_zero : (place : ℕ) → place ≡ 0 → share place ≡ 1
share_zero place is = grind (arith, nat_tests)

share_other : (place : ℕ) → place ≢ 0 → share place ≡ 0
share_other place differs = grind (arith, nat_tests)

first_shared : (groups : ℕ) → shared_in (replicate groups 0) ≡ groups
unfolding shared_in
first_shared zero = refl
first_shared (suc groups) = omega (arith, share_zero 0 refl, first_shared groups)

pub first_kept : (groups : ℕ) → AreGrouped (replicate groups 0) (replicate 256 0) 1
first_kept groups = record {
  size = length-replicate {A = ℕ} 256 0;
  first = omega arith;
  zeros = λ r lt. get_or-replicate 256 r 0 0 lt;
  within = λ g lt. omega (arith, zeros_at groups g);
  apart = λ g h lt lt_h same differs. absurd (differs (zeros_at groups g));
  counted = omega (arith, first_shared groups, length-replicate {A = ℕ} groups 0);
}

shared_set : (places : List ℕ) (g x : ℕ) → g < length places → get_or places g 0 ≡ 0 → x ≢ 0 → shared_in (set places g x) + 1 ≡ shared_in places
unfolding shared_in
shared_set [] g x lt is differs = absurd (omega arith)
shared_set (place ∷ places) zero x lt is differs = omega (arith, share_zero place is, share_other x differs)
shared_set (place ∷ places) (suc g) x lt is differs = omega (arith, shared_set places g x (omega arith) is differs)

-- a place is left, if a group has none of its own
pub place_left : (places : List ℕ) (g : ℕ) → g < length places → get_or places g 0 ≡ 0 → 0 < shared_in places
place_left places g lt is = omega (arith, shared_set places g 1 lt is (λ e. omega (arith, e)))

-- a group gets a place of its own
pub opened : (places kept : List ℕ) (used g : ℕ) → AreGrouped places kept used → g < length places → get_or places g 0 ≡ 0
    → AreGrouped (set places g used) (kept ++ replicate 256 0) (used + 1)
opened places kept used g was lt is =
    let here = get_or-set_same places g used 0 lt in
    let size = length-set places g used in
    let old : (h : ℕ) → h < length (set places g used) → h ≢ g → get_or (set places g used) h 0 < used = λ h below differs.
    subst (λ (p : ℕ). p < used) (sym (get_or-set_other places g h used 0 differs)) (was.within h (omega (arith, below, size))) in record {
      size = omega (arith, length-append kept (replicate 256 0), length-replicate {A = ℕ} 256 0, was.size);
      first = omega arith;
      zeros = λ r small. get_or_append_left kept (replicate 256 0) 0 r (omega (arith, small, was.size, was.first)) ∙ was.zeros r small;
      within = λ h below. ⊎_elim
          (λ (same : h ≡ g). subst (λ (j : ℕ). get_or (set places g used) j 0 < used + 1) (sym same) (omega (arith, here)))
          (λ (differs : h ≢ g). omega (arith, old h below differs)) (cases_eq h g);
      apart = λ h k below_h below_k same own. ⊎_elim
          (λ (h_is : h ≡ g). ⊎_elim (λ (k_is : k ≡ g). h_is ∙ sym k_is)
          (λ (k_not : k ≢ g). absurd (omega (arith, old k below_k k_not, same, ap (λ (j : ℕ). get_or (set places g used) j 0) h_is, here)))
          (cases_eq k g))
          (λ (h_not : h ≢ g). ⊎_elim
          (λ (k_is : k ≡ g). absurd (omega (arith, old h below_h h_not, same, ap (λ (j : ℕ). get_or (set places g used) j 0) k_is, here)))
          (λ (k_not : k ≢ g).
          let h_same = get_or-set_other places g h used 0 h_not in
          was.apart h k (omega (arith, below_h, size)) (omega (arith, below_k, size))
          (sym h_same ∙ same ∙ get_or-set_other places g k used 0 k_not) (λ e. own (h_same ∙ e)))
          (cases_eq k g))
          (cases_eq h g);
      counted = omega (arith, shared_set places g used lt is (λ e. omega (arith, e, was.first)), size, was.counted);
    }

pub kept_within : (places kept : List ℕ) (used k : ℕ) → AreGrouped places kept used → k / 256 < length places
    → get_or places (k / 256) 0 * 256 + k % 256 < length kept
kept_within places kept used k was below = omega (arith, was.within (k / 256) below, was.size)

-- a number whose group has no place of its own is 0
pub zero_at : (places kept : List ℕ) (used k : ℕ) → AreGrouped places kept used → get_or places (k / 256) 0 ≡ 0 → number_at places kept k ≡ 0
zero_at places kept used k was there =
    let rest : get_or places (k / 256) 0 * 256 + k % 256 ≡ k % 256 = omega (arith, there) in
    ap (λ (i : ℕ). get_or kept i 0) rest ∙ was.zeros (k % 256) (omega arith)

-- as all are while no group has one
pub numbers_unused : (places kept : List ℕ) (used n i : ℕ) → AreGrouped places kept used → used ≡ 1 → i < n → n < length places * 256
    → get_or (values_of (number_at places kept) n) i 0 ≡ 0
numbers_unused places kept used n i was one lt all =
    values_get (number_at places kept) n i lt ∙ zero_at places kept used i was (omega (arith, was.within (i / 256) (omega (arith, lt, all)), one))

pub stored_here : (places kept : List ℕ) (used i x : ℕ) → AreGrouped places kept used → i / 256 < length places
    → number_at places (set kept (get_or places (i / 256) 0 * 256 + i % 256) x) i ≡ x
stored_here places kept used i x was below =
    get_or-set_same kept (get_or places (i / 256) 0 * 256 + i % 256) x 0 (kept_within places kept used i was below)

-- and no other number changes
pub stored_other : (places kept : List ℕ) (used i x k : ℕ) → AreGrouped places kept used → get_or places (i / 256) 0 ≢ 0 → i / 256 < length places
    → k / 256 < length places → k ≢ i
    → number_at places (set kept (get_or places (i / 256) 0 * 256 + i % 256) x) k ≡ number_at places kept k
stored_other places kept used i x k was own below_i below_k differs =
    get_or-set_other kept (get_or places (i / 256) 0 * 256 + i % 256) (get_or places (k / 256) 0 * 256 + k % 256) x 0 (λ e.
    let place : get_or places (i / 256) 0 ≡ get_or places (k / 256) 0 = omega (arith, e) in
    let rest : i % 256 ≡ k % 256 = omega (arith, e) in
    let group = was.apart (i / 256) (k / 256) below_i below_k place own in
    differs (omega (arith, group, rest)))

-- what is kept, after room for one group more was made
pub resized : {T E : Type 0} (r : Result T E) (old new : List ℕ) (n len : ℕ) → new ≡ (if is_ok r then take n old ++ replicate (n - len) 0 else old)
    → IsOk r → length old ≡ len → n ≡ len + 256 → new ≡ old ++ replicate 256 0
resized (Ok value) old new n len is ok size more =
    let all : take n old ≡ old = take_all n old (omega (arith, size, more)) in
    let rest : n - len ≡ 256 = omega (arith, more) in
    is ∙ ap₂ (λ (xs : List ℕ) (m : ℕ). xs ++ replicate {A = ℕ} m 0) all rest
resized (Err e) old new n len is ok size more = absurd (false≢true ok)

-- what is kept for an index is found from another one of its group
pub kept_beside : (places kept : List ℕ) (n first i place : ℕ) → first ≤ i → i < first / 256 * 256 + 256 → i < n → place ≡ get_or places (first / 256) 0
    → get_or kept (place * 256 + first % 256 + (i - first)) 0 ≡ get_or (values_of (number_at places kept) n) i 0
kept_beside places kept n first i place le group lt is =
    let same : first / 256 ≡ i / 256 = omega (arith, le, group) in
    let there : place ≡ get_or places (i / 256) 0 = is ∙ ap (λ (g : ℕ). get_or places g 0) same in
    let at : place * 256 + first % 256 + (i - first) ≡ get_or places (i / 256) 0 * 256 + i % 256 = omega (arith, le, group, there) in
    ap (λ (k : ℕ). get_or kept k 0) at ∙ sym (values_get (number_at places kept) n i lt)
