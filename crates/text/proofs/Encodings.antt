-- Digits and their values: of one digit, and of sixteen at once.
use Rattle.std.proofs.Common.{◌≡◌, ℕ, ◌+◌, ◌*◌, ◌%◌, ◌<◌, ◌≤◌, true, false, List, [], length, get_or, Option, Some, None, unwrap_or, Result, Ok, Err, is_some}
use Rattle.std.proofs.Common.{refl, sym, ap, ◌∙◌, arith, eqb-true, suc, ◌-◌, ◌/◌, ◌^◌, ◌∷◌, ◌++◌, map, slice_index, take, drop, replicate, bit_and, ap₂, subst}
use Rattle.std.proofs.Common.{take-add, w8, Fits}
use Rattle.std.proofs.lemmas.Bool.{eqb-false}
use Rattle.std.proofs.lemmas.List.Elements.{All-from_get_or, All-get_or}
use Rattle.std.specs.Prelude.{◌==◌, Bool, IsErr, MatchBool}
use Rattle.std.specs.Result.{result_unwrap_or}
use Rattle.hex.specs.Hex.{decode_of, hex_digit_value, is_hex_digit, pair_value, encode_with, encode_lower, lower_digits}
use Rattle.hex.specs.declared.error.FromHexError.{FromHexError}
use Rattle.hex.proofs.HexLemmas.{decode_of-digits, decode_of-ok}
use Rattle.text.specs.Digits.{EndsDigits, bytes_of, AreValues, digit_of}
use Rattle.std.proofs.lemmas.List.{append_assoc, append-nil, drop_all, length-drop, take-append-drop}
use Rattle.std.proofs.lemmas.Nat.{and_mask, and_le_r}
use Rattle.std.proofs.lemmas.Simd.{Each1-all, Each1-weaker, Each1-zip2, Each2-splat, below_from_Fits, get_or-swz_l_below, pick_l_whole, swz_l}
use Rattle.std.proofs.lemmas.Simd.{take_more_put_chunk, length-put_chunk}
use Rattle.std.specs.List.{range_with_len}
use borrow.Rule.Slice.PartMut.{put_mid}
use lib.Lanes.{zip2, pick_l, put_chunk, chunk, Each1}

-- a value below 16 is a digit's
some_below : (o : Option ℕ) (v : ℕ) → v ≡ unwrap_or o 16 → v ≤ 15 → o ≡ Some v
some_below (Some w) v e small = ap Some (sym e)
some_below None v e small = absurd (omega arith)

digit_small : (c v : ℕ) → hex_digit_value c ≡ Some v → v < 16
digit_small c v h = grind (arith)

-- two digits
pub pair_read : (a b i high low : ℕ) → high ≡ unwrap_or (hex_digit_value a) 16 → low ≡ unwrap_or (hex_digit_value b) 16
    → high ≤ 15 → low ≤ 15 → pair_value a b i ≡ Ok (high * 16 + low)
pair_read a b i high low first second high_small low_small =
    rw (some_below (hex_digit_value a) high first high_small, some_below (hex_digit_value b) low second low_small) refl

pub value_below : (c v : ℕ) → v ≡ unwrap_or (hex_digit_value c) 16 → is_hex_digit c ≡ true → v ≤ 15
value_below c v e h = by (hex_digit_value c) e h (digit_small c)
  where
    by : (o : Option ℕ) → v ≡ unwrap_or o 16 → is_some o ≡ true → ((w : ℕ) → o ≡ Some w → w < 16) → v ≤ 15
    by (Some w) q d small = let below = small w refl in omega arith
    by None q d small = cc d

-- ---- digits as data

-- the bytes of digits that write some
pub bytes_are : (digits bytes : List ℕ) → decode_of digits ≡ Ok bytes → decode_of digits ≡ Ok (bytes_of digits)
unfolding bytes_of
bytes_are digits bytes h = h ∙ ap Ok (sym (ap (λ (r : Result (List ℕ) FromHexError). result_unwrap_or r []) h))

-- nothing but digits, and an even number
pub pairs_are : (digits : List ℕ) → length digits % 2 ≡ 0 → ((k : ℕ) → k < length digits → is_hex_digit (get_or digits k 0) ≡ true)
    → decode_of digits ≡ Ok (bytes_of digits)
pairs_are digits even all =
    let (bytes, is) = decode_of-digits digits even (All-from_get_or (λ c. is_hex_digit c ≡ true) digits 0 all) in
    bytes_are digits bytes is

-- each is one where they write bytes
pub digit_at : (digits bytes : List ℕ) (k : ℕ) → decode_of digits ≡ Ok bytes → k < length digits → is_hex_digit (get_or digits k 0) ≡ true
digit_at digits bytes k h below = All-get_or (λ c. is_hex_digit c ≡ true) digits k 0 below (decode_of-ok digits bytes h).1

-- one that is none
pub refused_at : (digits : List ℕ) (k : ℕ) → k < length digits → is_hex_digit (get_or digits k 0) ≡ false → IsErr (decode_of digits)
refused_at digits k below h = by (decode_of digits) refl
  where
    by : (r : Result (List ℕ) FromHexError) → decode_of digits ≡ r → IsErr r
    by (Ok bytes) e = absurd (cc (sym h ∙ digit_at digits bytes k e below))
    by (Err e) q = refl

-- an even number of bytes is digits just where digits go to their end
pub pairs_told : (digits : List ℕ) (end : ℕ) → length digits % 2 ≡ 0 → EndsDigits digits 0 end
    → MatchBool (end == length digits) (decode_of digits ≡ Ok (bytes_of digits)) (IsErr (decode_of digits))
pairs_told digits end even h = by (end == length digits) refl
  where
    by : (b : Bool) → (end == length digits) ≡ b → MatchBool b (decode_of digits ≡ Ok (bytes_of digits)) (IsErr (decode_of digits))
    by true e = let whole = eqb-true end (length digits) e in pairs_are digits even (λ k below. h.digits k (omega arith) (omega (arith, whole)))
    by false e = let before = eqb-false end (length digits) e in refused_at digits end (omega (arith, h.high, before)) (h.stops before)

abbrev pub down : ℕ → ℕ → ℕ
down a b = a / 2 ^ b

-- the digits at the places of values, from a lane on
pub picked : (at : ℕ) (values : List ℕ) → at + length values ≤ 16 → AreValues values → swz_l w8 16 lower_digits at values ≡ map digit_of values
picked at [] few h = refl
picked at (x ∷ xs) few h =
    let first = get_or-swz_l_below w8 16 lower_digits at (x ∷ xs) 0 (omega arith) h.0 in
    let place : 16 * ((at + 0) / 16) + x ≡ x = omega arith in
    ap₂ (λ (d : ℕ) (ds : List ℕ). d ∷ ds) (first ∙ ap digit_of place) (picked (suc at) xs (omega arith) h.1)

-- the high and the low four bits of bytes are values
pub high_are : (v : List ℕ) → Each1 (Fits w8) v → AreValues (zip2 down v (replicate 16 4))
high_are v fits =
    let small = Each1-weaker (λ a. a < 256) (λ a. a / 16 < 16) (λ a h. omega arith) v (below_from_Fits w8 v fits) in
    Each1-zip2 down (λ j. j < 16) v (replicate 16 4) (Each2-splat (λ a b. down a b < 16) v 16 4 small)

pub low_are : (v : List ℕ) → AreValues (zip2 bit_and v (replicate 16 15))
low_are v =
    let small = Each1-all (λ a. bit_and a 15 < 16) (λ a. omega (arith, and_le_r a 15)) v in
    Each1-zip2 bit_and (λ j. j < 16) v (replicate 16 15) (Each2-splat (λ a b. bit_and a b < 16) v 16 15 small)

abbrev high_digit : ℕ → ℕ
high_digit b = digit_of (b / 16)

abbrev low_digit : ℕ → ℕ
low_digit b = digit_of (b % 16)

high_is : (v : List ℕ) → map digit_of (zip2 down v (replicate (length v) 4)) ≡ map high_digit v
high_is [] = refl
high_is (x ∷ xs) = ap (λ (ds : List ℕ). high_digit x ∷ ds) (high_is xs)

low_is : (v : List ℕ) → map digit_of (zip2 bit_and v (replicate (length v) 15)) ≡ map low_digit v
low_is [] = refl
low_is (x ∷ xs) = ap₂ (λ (d : ℕ) (ds : List ℕ). d ∷ ds) (ap digit_of (and_mask x 4)) (low_is xs)

-- the lanes of two vectors in turns
abbrev pub woven : List ℕ → List ℕ
woven xs =
    pick_l 0 xs
    (0 ∷ 16 ∷ 1 ∷ 17 ∷ 2 ∷ 18 ∷ 3 ∷ 19 ∷ 4 ∷ 20 ∷ 5 ∷ 21 ∷ 6 ∷ 22 ∷ 7 ∷ 23 ∷ 8 ∷ 24 ∷ 9 ∷ 25 ∷ 10 ∷ 26 ∷ 11 ∷ 27 ∷ 12 ∷ 28 ∷ 13 ∷ 29 ∷ 14 ∷ 30 ∷ 15 ∷ 31 ∷ [])

abbrev sixteen : List ℕ → List ℕ
sixteen v = pick_l 0 v (range_with_len 0 16)

woven_sixteen : (v : List ℕ) → woven (map high_digit (sixteen v) ++ map low_digit (sixteen v)) ≡ encode_lower (sixteen v)
unfolding encode_with
woven_sixteen v = refl

-- the digits of sixteen bytes, the high ones and the low ones in turns
pub woven_is : (v high low : List ℕ) → length v ≡ 16 → high ≡ map digit_of (zip2 down v (replicate 16 4))
    → low ≡ map digit_of (zip2 bit_and v (replicate 16 15))
    → woven (high ++ low) ≡ encode_lower v
woven_is v high low long eh el =
    let h = eh ∙ subst (λ n. map digit_of (zip2 down v (replicate n 4)) ≡ map high_digit v) long (high_is v) in
    let l = el ∙ subst (λ n. map digit_of (zip2 bit_and v (replicate n 15)) ≡ map low_digit v) long (low_is v) in
    rw (h, l) (subst (λ w. woven (map high_digit w ++ map low_digit w) ≡ encode_lower w) (pick_l_whole 0 v 16 long) (woven_sixteen v))

-- bytes behind others have their digits behind theirs
pub encode-append : (xs ys : List ℕ) → encode_lower (xs ++ ys) ≡ encode_lower xs ++ encode_lower ys
unfolding encode_with
encode-append [] ys = refl
encode-append (x ∷ xs) ys = ap (λ (ds : List ℕ). slice_index lower_digits (x / 16) ∷ slice_index lower_digits (x % 16) ∷ ds) (encode-append xs ys)

-- sixteen bytes more are written
pub block_written : (bytes digits front back : List ℕ) (at : ℕ) → length front ≡ 16 → length back ≡ 16 → at + 16 ≤ length bytes
    → length digits ≡ 2 * length bytes
    → front ++ back ≡ encode_lower (chunk at 16 bytes) → take (2 * at) digits ≡ encode_lower (take at bytes)
    → take (2 * (at + 16)) (put_chunk (2 * at + 16) (put_chunk (2 * at) digits front) back) ≡ encode_lower (take (at + 16) bytes)
block_written bytes digits front back at f b room len block before =
    let first = take_more_put_chunk (2 * at) digits front (2 * at + 16) (omega arith) (omega arith) in
    let second = take_more_put_chunk (2 * at + 16) (put_chunk (2 * at) digits front) back (2 * (at + 16)) (omega arith)
    (omega (arith, length-put_chunk (2 * at) digits front)) in
    second ∙ ap (λ l. l ++ back) first ∙ append_assoc (take (2 * at) digits) front back
    ∙ ap₂ (λ (x y : List ℕ). x ++ y) before block
    ∙ sym (encode-append (take at bytes) (chunk at 16 bytes)) ∙ ap encode_lower (sym (take-add at 16 bytes))

-- the rest is written behind the blocks
pub rest_written : (bytes digits rest : List ℕ) (at : ℕ) → at ≤ length bytes → length digits ≡ 2 * length bytes
    → rest ≡ encode_lower (drop at bytes) → take (2 * at) digits ≡ encode_lower (take at bytes)
    → put_mid (2 * at) (length digits - 2 * at) digits rest ≡ encode_lower bytes
rest_written bytes digits rest at within len written before =
    let none = drop_all (length digits - 2 * at) (drop (2 * at) digits) (omega (arith, length-drop (2 * at) digits)) in
    ap₂ (λ (x y : List ℕ). x ++ y) before (ap₂ (λ (x y : List ℕ). x ++ y) written none ∙ append-nil (encode_lower (drop at bytes)))
    ∙ sym (encode-append (take at bytes) (drop at bytes)) ∙ ap encode_lower (take-append-drop at bytes)
