-- Numbers by their parts.
use Rattle.std.proofs.Common.{◌≡◌, ◌≢◌, ℕ, zero, suc, ◌+◌, ◌<◌, ◌≤◌, ◌/◌, ◌%◌, ◌++◌, List, [], ◌∷◌, length, get_or, set, replicate}
use Rattle.std.proofs.Common.{refl, sym, ◌∙◌, ap, subst, arith, ⊎_elim}
use Rattle.std.proofs.lemmas.Bool.{cases_eq, cases_lt}
use Rattle.std.proofs.lemmas.List.{length_push, get_or_push, get_or_append_left, get_or-set_same, get_or-set_other, length-set, length-replicate, ext_get_or}
use Rattle.std.proofs.lemmas.List.{get_or-replicate, get_or_past, replicate_more}
use Rattle.packed_map.specs.Parts.{joined_at, values_of}

pub length_values : (f : ℕ → ℕ) (n : ℕ) → length (values_of f n) ≡ n
unfolding values_of
length_values f zero = refl
length_values f (suc n) = omega (arith, length_push (values_of f n) (f n), length_values f n)

pub values_get : (f : ℕ → ℕ) (n i : ℕ) → i < n → get_or (values_of f n) i 0 ≡ f i
unfolding values_of
values_get f zero i lt = absurd (omega arith)
values_get f (suc n) i lt =
    let size = length_values f n in
    ⊎_elim
    (λ (below : i < n). get_or_append_left (values_of f n) (f n ∷ []) 0 i (omega (arith, below, size)) ∙ values_get f n i below)
    (λ (last : n ≤ i). let same : n ≡ i = omega (arith, last, lt) in
    subst (λ (j : ℕ). get_or (values_of f n ++ (f n ∷ [])) j 0 ≡ f j) same (get_or_push (values_of f n) (f n) 0 n size))
    (cases_lt i n)

-- the values are those with one changed, if they are at each index
pub values_changed : (f g : ℕ → ℕ) (n i x : ℕ) → i < n → g i ≡ x → ((k : ℕ) → k < n → k ≢ i → g k ≡ f k) → values_of g n ≡ set (values_of f n) i x
values_changed f g n i x lt here others =
    let size = length_values f n in
    ext_get_or 0 _ _ (length_values g n ∙ sym (length-set (values_of f n) i x ∙ size)) (λ k below.
    let within : k < n = omega (arith, below, length_values g n) in
    values_get g n k within ∙ ⊎_elim
    (λ (same : k ≡ i). subst (λ (j : ℕ). g j ≡ get_or (set (values_of f n) i x) j 0) (sym same)
    (here ∙ sym (get_or-set_same (values_of f n) i x 0 (omega (arith, lt, size)))))
    (λ (differs : k ≢ i). others k within differs ∙ sym (get_or-set_other (values_of f n) i k x 0 differs ∙ values_get f n k within))
    (cases_eq k i))

zeros_more : (n : ℕ) → replicate {A = ℕ} (n + 1) 0 ≡ replicate {A = ℕ} (suc n) 0
zeros_more n = let same : n + 1 ≡ suc n = omega arith in ap (λ (m : ℕ). replicate {A = ℕ} m 0) same

pub values_zero : (f : ℕ → ℕ) (n : ℕ) → ((i : ℕ) → f i ≡ 0) → values_of f n ≡ replicate n 0
unfolding values_of
values_zero f zero zeros = refl
values_zero f (suc n) zeros =
    ap (λ (rest : List ℕ). rest ++ (f n ∷ [])) (values_zero f n zeros)
    ∙ ap (λ (x : ℕ). replicate {A = ℕ} n 0 ++ (x ∷ [])) (zeros n) ∙ replicate_more {X = ℕ} n 0 ∙ zeros_more n

pub zeros_at : (n i : ℕ) → get_or {A = ℕ} (replicate {A = ℕ} n 0) i 0 ≡ 0
zeros_at n i = ⊎_elim (λ (lt : i < n). get_or-replicate {A = ℕ} n i 0 0 lt)
    (λ (le : n ≤ i). get_or_past {X = ℕ} (replicate {A = ℕ} n 0) i 0 (omega (arith, le, length-replicate {A = ℕ} n 0))) (cases_lt i n)

-- a number that is set in its parts
pub joined_set : (low middle high : List ℕ) (i number : ℕ) → i < length low → length middle ≡ length low → length high ≡ length low
    → values_of (joined_at (set low i (number % 4294967296)) (set middle i (number / 4294967296 % 256)) (set high i (number / 4294967296 / 256)))
    (length (set low i (number % 4294967296)))
    ≡ set (values_of (joined_at low middle high) (length low)) i number
joined_set low middle high i number lt same_middle same_high =
    let l = number % 4294967296 in
    let m = number / 4294967296 % 256 in
    let h = number / 4294967296 / 256 in
    ap (values_of (joined_at (set low i l) (set middle i m) (set high i h))) (length-set low i l)
    ∙ values_changed (joined_at low middle high) (joined_at (set low i l) (set middle i m) (set high i h)) (length low) i number lt
    (omega (
      arith,
      get_or-set_same low i l 0 lt,
      get_or-set_same middle i m 0 (omega (arith, lt, same_middle)),
      get_or-set_same high i h 0 (omega (arith, lt, same_high)),
    ))
    (λ k below differs. omega (arith, get_or-set_other low i k l 0 differs, get_or-set_other middle i k m 0 differs, get_or-set_other high i k h 0 differs))

pub joined_zeros : (low middle high : List ℕ) (n : ℕ) → low ≡ replicate n 0 → middle ≡ replicate n 0 → high ≡ replicate n 0
    → values_of (joined_at low middle high) (length low) ≡ replicate n 0
joined_zeros low middle high n is_low is_middle is_high =
    let size : length low ≡ n = ap length is_low ∙ length-replicate {A = ℕ} n 0 in
    ap (λ (m : ℕ). values_of (joined_at low middle high) m) size
    ∙ values_zero (joined_at low middle high) n (λ i. omega (
      arith,
      ap (λ (xs : List ℕ). get_or xs i 0) is_low ∙ zeros_at n i,
      ap (λ (xs : List ℕ). get_or xs i 0) is_middle ∙ zeros_at n i,
      ap (λ (xs : List ℕ). get_or xs i 0) is_high ∙ zeros_at n i,
    ))
