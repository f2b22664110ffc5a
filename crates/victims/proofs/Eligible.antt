-- Keys and which blocks are eligible.
use Rattle.std.proofs.Common.{◌≡◌, ℕ, ◌<◌, true, false, List, [], ◌∷◌, length, replicate, set, get_or, refl, suc, ap, ap₂, ◌∙◌, arith}
use Rattle.std.specs.{Prelude.count_by, Prelude.nat_lt, Prelude.◌==◌, Prelude.◌&&◌, List.zip}
use Rattle.std.proofs.{lemmas.List.map-set, lemmas.List.get_or-map, Math.Seq.map-set_same, lemmas.Bool.Decides.nat_tests, lemmas.Grind.common_steps}
use Rattle.victims.specs.Victims.{IsEligible, AreKeys, are_above_zero}

-- the marks after a key is set to zero
pub are_above_zero-set_zero : (keys : List ℕ) (i : ℕ) → are_above_zero (set keys i 0) ≡ set (are_above_zero keys) i false
are_above_zero-set_zero keys i = map-set (λ k. nat_lt 0 k) keys i 0

-- the marks after a key is set to a number above zero
pub are_above_zero-set_more : (keys : List ℕ) (i key : ℕ) → 0 < key → are_above_zero (set keys i key) ≡ set (are_above_zero keys) i true
are_above_zero-set_more keys i key positive =
    let above : nat_lt 0 key ≡ true = grind (arith, nat_tests) in
    map-set (λ k. nat_lt 0 k) keys i key ∙ ap (λ m. set (are_above_zero keys) i m) above

-- a key that is replaced by one on the same side of zero changes nothing
pub are_above_zero_same : (keys : List ℕ) (i key : ℕ) → nat_lt 0 key ≡ nat_lt 0 (get_or keys i 0)
    → are_above_zero (set keys i key) ≡ are_above_zero keys
are_above_zero_same keys i key same = map-set_same (λ k. nat_lt 0 k) keys i key 0 same

-- all keys are above zero
pub all_above_zero : (keys : List ℕ) → ((b : ℕ) → b < length keys → 0 < get_or keys b 0) → are_above_zero keys ≡ replicate (length keys) true
all_above_zero [] above = refl
all_above_zero (x ∷ xs) above = ap₂ ◌∷◌ (grind (arith, nat_tests, above 0)) (all_above_zero xs (λ b h. above (suc b) (omega arith)))

-- as many items have the key 1 as blocks are eligible and keep nothing
pub count_of_ones : (kept keys : List ℕ) → AreKeys kept keys
    → count_by (λ k. k == 1) keys ≡ count_by (λ block. block.0 == 0 && block.1) (zip kept (are_above_zero keys))
count_of_ones [] [] are = refl
count_of_ones [] (k ∷ keys) are = absurd (omega (arith, are.same))
count_of_ones (n ∷ kept) [] are = absurd (omega (arith, are.same))
count_of_ones (n ∷ kept) (k ∷ keys) are =
    let rest = count_of_ones kept keys (record { same = omega (arith, are.same); eligible = λ b h. are.eligible (suc b) (omega arith) }) in
    grind (arith, common_steps, nat_tests, are.eligible 0, rest)

-- an eligible block has a key above zero
pub eligible_above_zero : (pages : ℕ) (kept erases keys : List ℕ) (b : ℕ) → AreKeys kept keys
    → IsEligible (record { pages = pages; kept = kept; erases = erases; eligible = are_above_zero keys }) b
    → (b < length keys) × (0 < get_or keys b 0)
eligible_above_zero pages kept erases keys b are is =
    let inside : b < length keys = omega (arith, are.same, is.inside) in
    let mark : get_or (are_above_zero keys) b false ≡ nat_lt 0 (get_or keys b 0) = get_or-map (λ k. nat_lt 0 k) keys b 0 false inside in
    (inside, grind (arith, nat_tests, is.eligible, mark))
