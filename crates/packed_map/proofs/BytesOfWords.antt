-- Bytes in words.
use Rattle.std.proofs.Common.{◌≡◌, ◌≢◌, ℕ, zero, suc, ◌+◌, ◌-◌, ◌*◌, ◌<◌, ◌/◌, ◌%◌, ◌≤◌, ◌^◌, List, length, get_or, set, replicate}
use Rattle.std.proofs.Common.{refl, sym, ◌∙◌, ap, ⊎_elim, arith}
use Rattle.std.proofs.Math.Nat.{zero-div}
use Rattle.std.proofs.lemmas.Bool.{cases_eq}
use Rattle.std.proofs.lemmas.List.{get_or-set_same, get_or-set_other}
use Rattle.packed_map.specs.Parts.{byte_at, values_of}
use Rattle.packed_map.proofs.Parts.{values_changed, zeros_at}

-- a word after a byte was put at a place of it
abbrev pub put : ℕ → ℕ → ℕ → ℕ
put word shift byte = word - word / 2 ^ shift % 256 * 2 ^ shift % 4294967296 + byte * 2 ^ shift % 4294967296

pub put_fits : (word j byte : ℕ) → j < 4 → word < 4294967296 → byte < 256 → put word (8 * j) byte < 4294967296
put_fits word zero byte place few small = omega (arith, few, small)
put_fits word (suc zero) byte place few small = omega (arith, few, small)
put_fits word (suc (suc zero)) byte place few small = omega (arith, few, small)
put_fits word (suc (suc (suc zero))) byte place few small = omega (arith, few, small)
put_fits word (suc (suc (suc (suc j)))) byte place few small = absurd (omega (arith, place))

-- the byte is there
pub put_here : (word j byte : ℕ) → j < 4 → word < 4294967296 → byte < 256 → put word (8 * j) byte / 2 ^ (8 * j) % 256 ≡ byte
put_here word zero byte place few small = omega (arith, few, small)
put_here word (suc zero) byte place few small = omega (arith, few, small)
put_here word (suc (suc zero)) byte place few small = omega (arith, few, small)
put_here word (suc (suc (suc zero))) byte place few small = omega (arith, few, small)
put_here word (suc (suc (suc (suc j)))) byte place few small = absurd (omega (arith, place))

-- and no other one changes
pub put_beside : (word j k byte : ℕ) → j < 4 → k < 4 → k ≢ j → word < 4294967296 → byte < 256
    → put word (8 * j) byte / 2 ^ (8 * k) % 256 ≡ word / 2 ^ (8 * k) % 256
put_beside word zero zero byte place other differs few small = absurd (differs refl)
put_beside word zero (suc zero) byte place other differs few small = omega (arith, few, small)
put_beside word zero (suc (suc zero)) byte place other differs few small = omega (arith, few, small)
put_beside word zero (suc (suc (suc zero))) byte place other differs few small = omega (arith, few, small)
put_beside word (suc zero) zero byte place other differs few small = omega (arith, few, small)
put_beside word (suc zero) (suc zero) byte place other differs few small = absurd (differs refl)
put_beside word (suc zero) (suc (suc zero)) byte place other differs few small = omega (arith, few, small)
put_beside word (suc zero) (suc (suc (suc zero))) byte place other differs few small = omega (arith, few, small)
put_beside word (suc (suc zero)) zero byte place other differs few small = omega (arith, few, small)
put_beside word (suc (suc zero)) (suc zero) byte place other differs few small = omega (arith, few, small)
put_beside word (suc (suc zero)) (suc (suc zero)) byte place other differs few small = absurd (differs refl)
put_beside word (suc (suc zero)) (suc (suc (suc zero))) byte place other differs few small = omega (arith, few, small)
put_beside word (suc (suc (suc zero))) zero byte place other differs few small = omega (arith, few, small)
put_beside word (suc (suc (suc zero))) (suc zero) byte place other differs few small = omega (arith, few, small)
put_beside word (suc (suc (suc zero))) (suc (suc zero)) byte place other differs few small = omega (arith, few, small)
put_beside word (suc (suc (suc zero))) (suc (suc (suc zero))) byte place other differs few small = absurd (differs refl)
put_beside word (suc (suc (suc (suc j)))) k byte place other differs few small = absurd (omega (arith, place))
put_beside word zero (suc (suc (suc (suc k)))) byte place other differs few small = absurd (omega (arith, other))
put_beside word (suc zero) (suc (suc (suc (suc k)))) byte place other differs few small = absurd (omega (arith, other))
put_beside word (suc (suc zero)) (suc (suc (suc (suc k)))) byte place other differs few small = absurd (omega (arith, other))
put_beside word (suc (suc (suc zero))) (suc (suc (suc (suc k)))) byte place other differs few small = absurd (omega (arith, other))

pub bytes_zero : (n i : ℕ) → byte_at (replicate n 0) i ≡ 0
bytes_zero n i = ap (λ w. w / 2 ^ (8 * (i % 4)) % 256) (zeros_at n (i / 4)) ∙ ap (λ m. m % 256) (zero-div (2 ^ (8 * (i % 4))))

pub bytes_set : (words : List ℕ) (n i byte word : ℕ) → i < n → n ≤ length words * 4 → word ≡ get_or words (i / 4) 0 → word < 4294967296 → byte < 256
    → values_of (byte_at (set words (i / 4) (put word (8 * (i % 4)) byte))) n ≡ set (values_of (byte_at words) n) i byte
bytes_set words n i byte word lt size is few small =
    let new = set words (i / 4) (put word (8 * (i % 4)) byte) in
    let here : get_or new (i / 4) 0 ≡ put word (8 * (i % 4)) byte = get_or-set_same words (i / 4) (put word (8 * (i % 4)) byte) 0 (omega (arith, lt, size)) in
    let part : ℕ → ℕ → ℕ = λ w j. w / 2 ^ (8 * j) % 256 in
    values_changed (byte_at words) (byte_at new) n i byte lt
    (ap (λ w. part w (i % 4)) here ∙ put_here word (i % 4) byte (omega arith) few small)
    (λ k below differs. ⊎_elim
    (λ (same : k / 4 ≡ i / 4).
    ap (λ w. part w (k % 4)) (ap (λ g. get_or new g 0) same ∙ here)
    ∙ put_beside word (i % 4) (k % 4) byte (omega arith) (omega arith) (λ e. differs (omega (arith, e, same))) few small
    ∙ ap (λ w. part w (k % 4)) (is ∙ ap (λ g. get_or words g 0) (sym same)))
    (λ (other : k / 4 ≢ i / 4). ap (λ w. part w (k % 4)) (get_or-set_other words (i / 4) (k / 4) (put word (8 * (i % 4)) byte) 0 other))
    (cases_eq (k / 4) (i / 4)))
