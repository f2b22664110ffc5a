-- Remainders by a table of bytes.
use Rattle.std.proofs.Common.{zero, suc, ◌≡◌, ℕ, ◌*◌, ◌<◌, ◌/◌, ◌%◌, get_or, map, refl, sym, ap, ap₂, ◌∙◌, arith}
use Rattle.std.specs.{Prelude.if◌then◌else◌, Prelude.◌==◌, Prelude.bit_xor, List.range_with_len, Int.Bits.xor_assoc, Int.Bits.xor_zero_r, Int.Bits.xor_shifted}
use Rattle.std.proofs.lemmas.{Nat.xor_comm, Nat.xor_shr, Nat.xor_mod, List.FromFn.get_or-map-range_with_len}
use Rattle.crc32c.specs.{Crc.generator, Crc.times_x, Crc.times_x8, Crc.with_byte, declared.table.TheConstants.TABLE}

-- the generator, if the first coefficient is 1
abbrev carried : ℕ → ℕ
carried bit = if bit == 1 then generator else 0

-- a sum of two bits carries the sum of what they carry
carried-xor : (a b : ℕ) → a < 2 → b < 2 → carried (bit_xor a b) ≡ bit_xor (carried a) (carried b)
carried-xor zero zero h k = refl
carried-xor zero (suc zero) h k = refl
carried-xor (suc zero) zero h k = refl
carried-xor (suc zero) (suc zero) h k = refl
carried-xor (suc (suc a)) b h k = absurd (omega arith)
carried-xor a (suc (suc b)) h k = absurd (omega arith)

-- two sums are added part by part
regroup : (a b c d : ℕ) → bit_xor (bit_xor a b) (bit_xor c d) ≡ bit_xor (bit_xor a c) (bit_xor b d)
regroup a b c d =
    xor_assoc a b (bit_xor c d) ∙ ap (λ x. bit_xor a x) (sym (xor_assoc b c d) ∙ ap (λ x. bit_xor x d) (xor_comm b c) ∙ xor_assoc c b d)
    ∙ sym (xor_assoc a c (bit_xor b d))

-- a product with x is linear
times_x-xor : (a b : ℕ) → times_x (bit_xor a b) ≡ bit_xor (times_x a) (times_x b)
unfolding times_x
times_x-xor a b =
    ap₂ bit_xor (xor_shr a b 1) (ap carried (xor_mod a b 1) ∙ carried-xor (a % 2) (b % 2) (omega arith) (omega arith))
    ∙ regroup (a / 2) (b / 2) (carried (a % 2)) (carried (b % 2))

-- so is one with x^8
times_x8-xor : (a b : ℕ) → times_x8 (bit_xor a b) ≡ bit_xor (times_x8 a) (times_x8 b)
unfolding times_x8
times_x8-xor a b = simp times_x-xor

-- a polynomial without a first coefficient moves up
times_x-even : (h : ℕ) → times_x (h * 2) ≡ h
unfolding times_x
times_x-even h =
    let half : h * 2 / 2 ≡ h = omega arith in
    let rest : h * 2 % 2 ≡ 0 = omega arith in
    rw (half, rest) (xor_zero_r h)

-- eight times
times_x8-high : (h : ℕ) → times_x8 (h * 256) ≡ h
unfolding times_x8
times_x8-high h =
    let parts : h * 256 ≡ h * 2 * 2 * 2 * 2 * 2 * 2 * 2 * 2 = omega arith in
    rw parts (simp times_x-even)

-- a number is the sum of its high bits and its lowest byte
split : (c : ℕ) → bit_xor (c / 256 * 256) (c % 256) ≡ c
split c = xor_shifted (c / 256) 8 (c % 256) (omega arith) ∙ omega arith

-- the entries of the table
table_is : TABLE ≡ map times_x8 (range_with_len 0 256)
unfolding times_x8 times_x
table_is = refl

-- a remainder with one more byte, by the table
pub by_table : (p byte : ℕ) → byte < 256 → with_byte p byte ≡ bit_xor (p / 256) (get_or TABLE (bit_xor p byte % 256) 0)
unfolding with_byte
by_table p byte small =
    let sum : ℕ = bit_xor p byte in
    let high : sum / 256 ≡ p / 256 = xor_shr p byte 8 ∙ ap (λ x. bit_xor (p / 256) x) (omega arith) ∙ xor_zero_r (p / 256) in
    let low : get_or TABLE (sum % 256) 0 ≡ times_x8 (sum % 256) = ap (λ t. get_or t (sum % 256) 0) table_is
    ∙ get_or-map-range_with_len times_x8 0 256 (sum % 256) (sum % 256) 0 (omega arith) (omega arith) in
    sym (ap times_x8 (split sum)) ∙ times_x8-xor (sum / 256 * 256) (sum % 256) ∙ ap₂ bit_xor (times_x8-high (sum / 256) ∙ high) (sym low)
