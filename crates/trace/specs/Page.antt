-- A page and the bytes that a trace gave for it, as digits that stay digits until their bytes are needed.
use Rattle.std.specs.Prelude.{◌≡◌, ℕ, ◌*◌, ◌≤◌, List, length, Ok, ◌-◌, ◌++◌, replicate}
use Rattle.hex.specs.Hex.{decode_of}
use Rattle.text.specs.Digits.{bytes_of}

-- these are digits that write at most this many bytes
pub record IsData (most : ℕ) (digits : List ℕ) : Type 0 where
  pub bytes : decode_of digits ≡ Ok (bytes_of digits)
  pub count : length digits ≡ 2 * length (bytes_of digits)
  pub fits : length (bytes_of digits) ≤ most

-- the page of this many bytes that begins with the given ones; the others are zero
abbrev pub page_with : ℕ → List ℕ → List ℕ
page_with size given = given ++ replicate (size - length given) 0
