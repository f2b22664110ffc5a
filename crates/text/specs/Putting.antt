-- Texts that are put into a buffer.
use Rattle.std.specs.Prelude.{◌≡◌, ℕ, ◌+◌, ◌/◌, ◌%◌, ◌≤◌, List, [], ◌∷◌, ◌++◌, length, take}
use Rattle.text.specs.declared.put.Short.{Short}

-- the bytes of a short text that count
abbrev pub short_of : Short → List ℕ
short_of text = take text.len text.bytes

-- the digits of a number below 100, with leading zeros
abbrev pub two_digits : ℕ → List ℕ
two_digits n = (48 + n / 10) ∷ (48 + n % 10) ∷ []

-- the digits of a number below 10,000, with leading zeros
abbrev pub four_digits : ℕ → List ℕ
four_digits n = two_digits (n / 100) ++ two_digits (n % 100)

-- a text is in a buffer after its first bytes, which are unchanged, and ends here; the buffer is as long as before
pub record PutsText (old new : List ℕ) (at : ℕ) (text : List ℕ) (end : ℕ) : Type 0 where
  pub bytes : take end new ≡ take at old ++ text
  pub within : end ≤ length new
  pub len : length new ≡ length old
