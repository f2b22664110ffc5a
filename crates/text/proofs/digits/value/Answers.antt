-- The table is held against the definition at each of the 256 bytes, by computing.
use Rattle.std.proofs.Common.{◌≡◌, ℕ, zero, suc, ◌<◌, ◌==◌, ◌&&◌, Bool, true, inl, inr, List, get_or, unwrap_or, refl, arith}
use Rattle.std.proofs.lemmas.Bool.{and_parts, cases_lt, eqb-true}
use Rattle.hex.specs.Hex.{hex_digit_value}
use Rattle.text.specs.declared.digits.TheConstants.{VALUES}
use Rattle.text.proofs.digits.value.Goals as goal

-- a table has the values of all bytes below n
has_values : List ℕ → ℕ → Bool
has_values table zero = true
has_values table (suc n) = (get_or table n 0 == unwrap_or (hex_digit_value n) 16) && has_values table n

has_values-at : (table : List ℕ) (n digit : ℕ) → has_values table n ≡ true → digit < n → get_or table digit 0 ≡ unwrap_or (hex_digit_value digit) 16
unfolding has_values
has_values-at table zero digit h below = absurd (omega arith)
has_values-at table (suc n) digit h below =
    let parts = and_parts (get_or table n 0 == unwrap_or (hex_digit_value n) 16) (has_values table n) h in
    elim (cases_lt digit n) [
      | inl before ↦ has_values-at table n digit parts.1 before
      | inr last ↦
          let e : digit ≡ n = omega arith in
          rw e (eqb-true (get_or table n 0) (unwrap_or (hex_digit_value n) 16) parts.0)
    ]

pub returns : goal.returns
unfolding has_values
returns c = has_values-at VALUES 256 c.args.digit refl (omega arith)
