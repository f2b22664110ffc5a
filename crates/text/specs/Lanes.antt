-- Sixteen bytes of a text at once.
use Rattle.std.specs.Prelude.{◌≡◌, ◌+◌, ◌*◌, ◌^◌, ◌%◌, ◌<◌, ◌≤◌, ◌==◌, ◌||◌, ℕ, Bool, true, false, List, length, if◌then◌else◌, slice_index, nat_lt, Ok}
use Rattle.std.specs.Int.{w64, trailing_zeros, Bits.bit_and}
use Rattle.hex.specs.Hex.{is_hex_digit, pair_value}

-- whether a byte ends a line
abbrev pub is_line_end : ℕ → Bool
is_line_end byte = (byte == 13) || (byte == 10)

-- whether a byte ends a field, if no quotes are open
abbrev pub is_field_end : ℕ → Bool
is_field_end byte = (byte == 44) || is_line_end byte

-- the place of the lowest bit that is set, or sixteen
abbrev pub first_set : ℕ → ℕ
first_set mask = if mask == 0 then 16 else trailing_zeros w64 mask

-- this many of the sixteen bytes from a place on end no field, and the next one does
pub record IsRun (text : List ℕ) (at run : ℕ) : Type 0 where
  pub within : run ≤ 16
  pub joins : (k : ℕ) → at ≤ k → k < at + run → is_field_end (slice_index text k) ≡ false
  pub stops : run < 16 → is_field_end (slice_index text (at + run)) ≡ true

-- this many of the sixteen bytes from a place on are digits, and the next one is none
pub record IsDigitRun (text : List ℕ) (at run : ℕ) : Type 0 where
  pub within : run ≤ 16
  pub digits : (k : ℕ) → at ≤ k → k < at + run → is_hex_digit (slice_index text k) ≡ true
  pub stops : run < 16 → is_hex_digit (slice_index text (at + run)) ≡ false

-- the sixteen bytes from a place on are digits
abbrev pub AreDigits : List ℕ → ℕ → Type 0
AreDigits text at = (k : ℕ) → at ≤ k → k < at + 16 → is_hex_digit (slice_index text k) ≡ true

-- sixteen pairs of digits are there from a place on
abbrev pub IsBlock : List ℕ → ℕ → Type 0
IsBlock text at = AreDigits text at × AreDigits text (at + 16)

-- the value of a digit
abbrev pub digit_lane : ℕ → ℕ
digit_lane digit = (bit_and digit 15 + (if nat_lt 57 digit then 9 else 0)) % 2 ^ 8

-- the sixteen pairs of digits from a place on write these bytes
pub record Decodes (text : List ℕ) (at : ℕ) (bytes : List ℕ) : Type 0 where
  pub count : length bytes ≡ 16
  pub pairs : (k : ℕ) → k < 16 → pair_value (slice_index text (at + 2 * k)) (slice_index text (at + 2 * k + 1)) (at + 2 * k) ≡ Ok (slice_index bytes k)
