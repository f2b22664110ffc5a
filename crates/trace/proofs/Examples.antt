-- What small digits write, and what is kept of the first line.
use Rattle.std.proofs.Common.{◌≡◌, ◌≤◌, List, [], ◌∷◌, ℕ, Result, Ok, Err, codes, length, refl, arith}
use Rattle.std.specs.Prelude.{IsErr}
use Rattle.hex.specs.{Hex.decode_of, Hex.decode_pairs, declared.error.FromHexError.FromHexError}
use Rattle.trace.specs.{Page.IsData, Stored.IsKept, Stored.IsWhole, declared.stored.Stored.Stored}
use Rattle.text.specs.Digits.{bytes_of}

pub bytes-0a : bytes_of (codes "0a") ≡ 10 ∷ []
unfolding bytes_of decode_pairs
bytes-0a = refl

pub bytes-0b : bytes_of (codes "0b") ≡ 11 ∷ []
unfolding bytes_of decode_pairs
bytes-0b = refl

pub bytes-none : bytes_of [] ≡ []
unfolding bytes_of decode_pairs
bytes-none = refl

-- they are those of one byte
pub data-0a : IsData 1 (codes "0a")
unfolding bytes_of decode_pairs
data-0a = record { bytes = refl; count = refl; fits = omega arith }

-- a byte that is no digit writes nothing
refused-0g : IsErr (decode_of (codes "0g"))
unfolding decode_pairs
refused-0g = refl

pub no_data-0g : (most : ℕ) → ¬ IsData most (codes "0g")
no_data-0g most h = by (decode_of (codes "0g")) refused-0g h.bytes
  where
    by : (r : Result (List ℕ) FromHexError) → IsErr r → ¬ (r ≡ Ok (bytes_of (codes "0g")))
    by (Ok bytes) refused e = absurd (cc refused)
    by (Err f) refused e = absurd (cc e)

-- one byte is too long for a page of none
pub no_data-none : ¬ IsData 0 (codes "0a")
no_data-none h = let few : length (bytes_of (codes "0a")) ≤ 0 = h.fits in let one : 1 ≤ 0 = rw bytes-0a at few in omega (arith, one)

pub first_kept : (text odd : List ℕ) (size : ℕ) (s : Stored) (all : List Stored) → IsWhole text odd size (s ∷ all) → IsKept text odd size s
first_kept text odd size s all h = h.kept 0 s (omega arith)

pub second_kept : (text odd : List ℕ) (size : ℕ) (s t : Stored) (all : List Stored) → IsWhole text odd size (s ∷ t ∷ all) → IsKept text odd size t
second_kept text odd size s t all h = h.kept 1 s (omega arith)
