-- Numbers two and four digits at a time.
use Rattle.std.proofs.Common.{◌≡◌, ℕ, ◌+◌, ◌*◌, ◌/◌, ◌%◌, ◌^◌, ◌<◌, ◌≤◌, true, List, [], ◌∷◌, ◌++◌, length, get_or, set, take, refl, ap, sym, ◌∙◌, arith, eqb}
use Rattle.std.proofs.{Common.eqb-true, Common.subst, Common.length-set, lemmas.Bool.agree_below_at, lemmas.Fmt.decimal_digit}
use Rattle.std.specs.Fmt.{decimal}
use Rattle.itoa.proofs.Decimal.{decimal_two, decimal_pair, decimal_four}
use Rattle.text.{specs.Putting.PutsText, specs.Putting.two_digits, specs.Putting.four_digits, proofs.Places.Puts-byte, proofs.Places.Puts-then}
use Rattle.text.specs.declared.put.TheConstants.{PAIRS}

-- the table has the digits
pub tens_are : (n : ℕ) → n < 100 → get_or PAIRS (2 * n) 0 ≡ 48 + n / 10
tens_are n h = eqb-true _ _ (agree_below_at (λ v. eqb (get_or PAIRS (2 * v) 0) (48 + v / 10)) (λ _. true) 100 n refl h)

pub ones_are : (n : ℕ) → n < 100 → get_or PAIRS (2 * n + 1) 0 ≡ 48 + n % 10
ones_are n h = eqb-true _ _ (agree_below_at (λ v. eqb (get_or PAIRS (2 * v + 1) 0) (48 + v % 10)) (λ _. true) 100 n refl h)

-- with zeros behind them, numbers of one to four digits have theirs first
pub filled_one : (n : ℕ) → n < 10 → take 1 (four_digits (1000 * n)) ≡ decimal n
filled_one n h =
    let a : 1000 * n / 100 / 10 ≡ n = omega arith in
    ap (λ (d : ℕ). (48 + d) ∷ []) a ∙ sym (decimal_digit n h)

pub filled_two : (n : ℕ) → 10 ≤ n → n < 100 → take 2 (four_digits (100 * n)) ≡ decimal n
filled_two n lo hi =
    let a : 100 * n / 100 ≡ n = omega arith in
    ap two_digits a ∙ sym (decimal_two n lo hi)

pub filled_three : (n : ℕ) → 100 ≤ n → n < 1000 → take 3 (four_digits (10 * n)) ≡ decimal n
filled_three n lo hi =
    let a : 10 * n / 100 / 10 ≡ n / 100 = omega arith in
    let b : 10 * n / 100 % 10 ≡ n % 100 / 10 = omega arith in
    let c : 10 * n % 100 / 10 ≡ n % 100 % 10 = omega arith in
    rw (a, b, c, decimal_pair n lo (omega arith), decimal_digit (n / 100) (omega arith)) refl

pub filled_four : (n : ℕ) → 1000 ≤ n → n < 10000 → take 4 (four_digits (1 * n)) ≡ decimal n
filled_four n lo hi =
    let a : 1 * n ≡ n = omega arith in
    ap (λ (k : ℕ). take 4 (four_digits k)) a
    ∙ sym (decimal_pair n (omega arith) (omega arith) ∙ ap (λ (l : List ℕ). l ++ two_digits (n % 100)) (decimal_two (n / 100) (omega arith) (omega arith)))

-- a number of five to eight digits: those of its first part, and four more
pub decimal_parts : (n : ℕ) → 10000 ≤ n → n < 2 ^ 64 → decimal (n / 10000) ++ four_digits (n % 10000) ≡ decimal n
decimal_parts n lo hi = sym (decimal_four n lo hi)

-- two digits of the table
pub Puts-two : (a : List ℕ) (i n : ℕ) → n < 100 → i + 2 ≤ length a
    → PutsText a (set (set a i (get_or PAIRS (2 * n) 0)) (i + 1) (get_or PAIRS (2 * n + 1) 0)) i (two_digits n) (i + 2)
Puts-two a i n h room =
    let same = length-set a i (48 + n / 10) in
    let end : i + 1 + 1 ≡ i + 2 = omega arith in
    rw (tens_are n h, ones_are n h)
    (subst (PutsText a (set (set a i (48 + n / 10)) (i + 1) (48 + n % 10)) i (two_digits n)) end
    (Puts-then (Puts-byte a i (48 + n / 10) (omega arith)) (Puts-byte (set a i (48 + n / 10)) (i + 1) (48 + n % 10) (omega arith))))
