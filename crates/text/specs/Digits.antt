-- Values below 16 and their digits, and digits that stay digits until their bytes are needed.
use Rattle.std.specs.Prelude.{◌≡◌, ◌≢◌, ℕ, ◌<◌, ◌≤◌, true, false, List, [], length, slice_index}
use Rattle.std.specs.Result.{result_unwrap_or}
use Rattle.hex.specs.Hex.{decode_of, is_hex_digit, lower_digits}
use Rattle.std.specs.Simd.Lanes.{Each1}

-- the bytes that digits write
unfoldable pub bytes_of : List ℕ → List ℕ
bytes_of digits = result_unwrap_or (decode_of digits) []

-- digits go from the one place to the other
pub record EndsDigits (text : List ℕ) (start end : ℕ) : Type 0 where
  pub low : start ≤ end
  pub high : end ≤ length text
  pub digits : (k : ℕ) → start ≤ k → k < end → is_hex_digit (slice_index text k) ≡ true
  pub stops : end ≢ length text → is_hex_digit (slice_index text end) ≡ false

-- the digit of a value
abbrev pub digit_of : ℕ → ℕ
digit_of value = slice_index lower_digits value

-- each is less than 16
abbrev pub AreValues : List ℕ → Type 0
AreValues values = Each1 (λ value. value < 16) values
