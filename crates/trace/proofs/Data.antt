-- Digits as data, and what the digits of an op make of its page.
use Rattle.std.proofs.Common.{◌≡◌, ℕ, ◌*◌, ◌/◌, ◌≤◌, List, [], ◌∷◌, length, Ok, refl, arith, ◌<◌, ◌⊎◌, inl, inr, true, Err, eqb-true}
use Rattle.hex.specs.Hex.{decode_of}
use Rattle.hex.proofs.HexLemmas.{decode_of-ok}
use Rattle.text.specs.Digits.{bytes_of}
use Rattle.text.proofs.Encodings.{pairs_are}
use Rattle.trace.specs.Page.{IsData, page_with}
use Rattle.trace.specs.Parsing.{page_len}
use Rattle.trace.specs.declared.commands.Op.TheVariants as op
use Rattle.trace.specs.declared.commands.Op.{Op}
use Rattle.std.specs.Prelude.{◌==◌}
use Rattle.trace.specs.Drafting.{MakePage}
use Rattle.trace.specs.Trace.{page_of_op, page_of_bytes}
use Rattle.trace.specs.declared.fault.TraceFaultKind.TheVariants as fault

-- digits that write no more than this
pub data_is : (most : ℕ) (digits : List ℕ) → decode_of digits ≡ Ok (bytes_of digits) → length digits ≤ 2 * most → IsData most digits
data_is most digits h few =
    let count = (decode_of-ok digits (bytes_of digits) h).2 in
    record { bytes = h; count = count; fits = omega (arith, count, few) }

pub written : (most : ℕ) (digits : List ℕ) → decode_of digits ≡ Ok (bytes_of digits) → length digits / 2 ≤ most → IsData most digits
written most digits h few =
    let even = (decode_of-ok digits (bytes_of digits) h).0 in
    data_is most digits h (omega (arith, even, few))

-- none write nothing
pub data_none : (most : ℕ) (digits : List ℕ) → length digits ≡ 0 → IsData most digits
data_none most digits none = data_is most digits (pairs_are digits (omega (arith, none)) (λ k below. absurd (omega (arith, none)))) (omega (arith, none))

pub none_written : (digits : List ℕ) → length digits ≡ 0 → bytes_of digits ≡ []
none_written digits none = by (bytes_of digits) (data_none 0 digits none).fits
  where
    by : (bytes : List ℕ) → length bytes ≤ 0 → bytes ≡ []
    by [] h = refl
    by (b ∷ bytes) h = absurd (omega arith)

-- the digits of a page are at most twice as many as its bytes
pub few_digits : (size : ℕ) (o : Op) (digits : List ℕ) → IsData (page_len o size) digits → length digits ≤ 2 * size
few_digits size op.Write digits h = omega (arith, h.count, h.fits)
few_digits size _ digits h = omega (arith, h.count, h.fits)

-- digits of more bytes than a page has
long_bytes : (size : ℕ) (digits : List ℕ) → decode_of digits ≡ Ok (bytes_of digits) → IsData (length digits) digits → size < length digits / 2
    → page_of_bytes size (decode_of digits) ≡ Err fault.TooLong
long_bytes size digits h d long =
    let more : size < length (bytes_of digits) = omega (arith, d.count) in
    rw h (grind (arith, more))

-- and of as many at most
fitting_bytes : (size : ℕ) (digits : List ℕ) → decode_of digits ≡ Ok (bytes_of digits) → IsData size digits
    → page_of_bytes size (decode_of digits) ≡ Ok (page_with size (bytes_of digits))
fitting_bytes size digits h d =
    let few = d.fits in
    rw h (grind (arith, few))

module _ (size : ℕ) (o : Op) (worker sector : ℕ) (digits : List ℕ) where
  pub refuses_long : (o ≡ op.Write) ⊎ (o ≡ op.New) → decode_of digits ≡ Ok (bytes_of digits) → size < length digits / 2
      → page_of_op size o worker sector digits ≡ Err fault.TooLong
  unfolding page_of_op
  refuses_long (inl e) h long = rw e (long_bytes size digits h (data_is (length digits) digits h (omega arith)) long)
  refuses_long (inr e) h long = rw e (long_bytes size digits h (data_is (length digits) digits h (omega arith)) long)

  pub makes_write : (o ≡ op.Write) ⊎ (o ≡ op.New) → decode_of digits ≡ Ok (bytes_of digits) → length digits / 2 ≤ size
      → MakePage size o digits (page_of_op size o worker sector digits)
  unfolding page_of_op
  makes_write (inl e) h few =
      let kept : IsData size digits = written size digits h few in
      rw e (record { is = fitting_bytes size digits h kept; fits = kept })
  makes_write (inr e) h few =
      let kept : IsData size digits = written size digits h few in
      rw e (record { is = fitting_bytes size digits h kept; fits = kept })

  pub makes_none : (o ≡ op.Read) ⊎ (o ≡ op.Trim) → (length digits == 0) ≡ true → MakePage size o digits (page_of_op size o worker sector digits)
  unfolding page_of_op
  makes_none (inl e) h = let none = eqb-true _ _ h in rw (e, h) (record { is = rw (none_written digits none) refl; fits = data_none 0 digits none })
  makes_none (inr e) h = let none = eqb-true _ _ h in rw (e, h) (record { is = rw (none_written digits none) refl; fits = data_none 0 digits none })

  pub makes_meet : o ≡ op.Meet → (length digits == 0) ≡ true → worker ≡ 0 → sector ≡ 0 → MakePage size o digits (page_of_op size o worker sector digits)
  unfolding page_of_op
  makes_meet e h w s = let none = eqb-true _ _ h in rw (e, h, w, s) (record { is = rw (none_written digits none) refl; fits = data_none 0 digits none })
