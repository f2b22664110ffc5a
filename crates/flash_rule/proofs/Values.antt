-- A page's words tell its bytes.
use Rattle.flash_rule.proofs.Words.{◌≡◌, ℕ, zero, suc, ◌+◌, ◌*◌, ◌<◌, List, [], ◌∷◌, ◌++◌, length, sym, refl, ap, ◌∙◌, subst, arith, get_or, Numbers, IsValue}
use Rattle.std.{proofs.Common.take, proofs.Common.drop, proofs.lemmas.Nat.le_bytes_8, specs.Int.from_le_bytes, specs.Int.w64}
use Rattle.std.proofs.lemmas.List.{get_or-drop, take-append-drop, drop-drop, length-drop, length-take}
use Rattle.flash_rule.specs.World.{data_word}

take_bytes : (u : List ℕ) (n : ℕ) → ((k : ℕ) → get_or u k 0 < 256) → (k : ℕ) → get_or (take n u) k 0 < 256
take_bytes [] zero h k = h k
take_bytes [] (suc n) h k = h k
take_bytes (x ∷ u) zero h k = omega arith
take_bytes (x ∷ u) (suc n) h zero = h zero
take_bytes (x ∷ u) (suc n) h (suc k) = take_bytes u n (λ k. h (suc k)) k

-- eight bytes are told by their word
bytes_same : (n : ℕ) (u v : List ℕ) → n ≡ 8 → length u ≡ n → length v ≡ n → ((k : ℕ) → get_or u k 0 < 256) → ((k : ℕ) → get_or v k 0 < 256)
    → from_le_bytes w64 u ≡ from_le_bytes w64 v → u ≡ v
bytes_same n u v eight a b low high same =
    sym (le_bytes_8 u (from_le_bytes w64 u) (a ∙ eight) low refl) ∙ le_bytes_8 v (from_le_bytes w64 u) (b ∙ eight) high same

chunks_same : (n e : ℕ) (u v : List ℕ) → e ≡ 8 → length u ≡ e * n → length v ≡ e * n → ((k : ℕ) → get_or u k 0 < 256) → ((k : ℕ) → get_or v k 0 < 256)
    → ((i : ℕ) → i < n → from_le_bytes w64 (take e (drop (e * i) u)) ≡ from_le_bytes w64 (take e (drop (e * i) v))) → u ≡ v
chunks_same zero e [] [] eight a b low high same = refl
chunks_same zero e [] (y ∷ v) eight a b low high same = absurd (omega arith)
chunks_same zero e (x ∷ u) v eight a b low high same = absurd (omega arith)
chunks_same (suc n) e u v eight a b low high same =
    let first : take e u ≡ take e v =
    bytes_same e (take e u) (take e v) eight (length-take e u ∙ (omega arith)) (length-take e v ∙ (omega arith)) (take_bytes u e low) (take_bytes v e high)
    (let s = same zero (omega arith) in let z : e * zero ≡ zero = omega arith in
    let P : ℕ → Type 0 = λ k. from_le_bytes w64 (take e (drop k u)) ≡ from_le_bytes w64 (take e (drop k v)) in subst P z s) in
    let others : drop e u ≡ drop e v =
    chunks_same n e (drop e u) (drop e v) eight (length-drop e u ∙ (omega arith)) (length-drop e v ∙ (omega arith))
    (λ k. subst (λ x. x < 256) (sym (get_or-drop e u k 0)) (low (e + k))) (λ k. subst (λ x. x < 256) (sym (get_or-drop e v k 0)) (high (e + k)))
    (λ i below.
    let s = same (suc i) (omega arith) in
    let at : e * suc i ≡ e + e * i = omega arith in
    let P : ℕ → Type 0 = λ k. from_le_bytes w64 (take e (drop k u)) ≡ from_le_bytes w64 (take e (drop k v)) in
    let there : P (e + e * i) = subst P at s in
    ap (λ l. from_le_bytes w64 (take e l)) (drop-drop (e * i) e u) ∙ (there ∙ ap (λ l. from_le_bytes w64 (take e l)) (sym (drop-drop (e * i) e v)))) in
    sym (take-append-drop e u) ∙ ((λ k. first k ++ others k) ∙ take-append-drop e v)

pub value_same : (z : Numbers) (u v : List ℕ) → IsValue z u → IsValue z v → ((i : ℕ) → i < z.words → data_word u i ≡ data_word v i) → u ≡ v
unfolding data_word
value_same z u v a b same = chunks_same z.words 8 u v refl a.long b.long a.bytes b.bytes same
