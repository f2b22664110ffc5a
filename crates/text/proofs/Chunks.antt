-- Sixteen bytes of a text at once.
use Rattle.std.proofs.Common.{◌≡◌, ℕ, zero, suc, ◌+◌, ◌*◌, ◌%◌, ◌^◌, ◌<◌, ◌≤◌, Bool, true, false, not, ◌&&◌, ◌||◌, cond, eqb, ltb, List, [], ◌∷◌, ◌++◌, map}
use Rattle.std.proofs.Common.{length, get_or, take, drop, replicate, bit_and, unwrap_or, Ok, inl, inr, refl, sym, ap, ap₂, ◌∙◌, subst, arith, eqb-true}
use Rattle.std.{proofs.Common.ltb-true, proofs.Common.take-add, proofs.Common.w8, proofs.Common.Fits, specs.List.prefix_len}
use Rattle.std.proofs.lemmas.Bool.{agree_below, agree_below_at, and_parts, cases_lt, not-false, not-true}
use Rattle.std.proofs.lemmas.List.{drop-drop, get_or-map, length-map, map-append, set-get_or, take-append-le, take-take, length-take-le}
use Rattle.std.proofs.lemmas.Simd.{map-map, mask_l-mod, length-chunk, get_or-chunk, get_or-zip2, first_set_mask_l, run_in_chunk_le, run_in_chunk_fails}
use Rattle.std.proofs.lemmas.Simd.{run_in_chunk_stops, length-put_chunk, take_more_put_chunk, get_or-put_chunk_at, get_or-replicate}
use lib.Lanes.{chunk, put_chunk, zip2, sel_l, mask_l, pick_l, top}
use Rattle.hex.{specs.Hex.decode_pairs, specs.Hex.hex_digit_value, specs.Hex.is_hex_digit, specs.Hex.pair_value, proofs.Pairs.decode_step, proofs.Pairs.prepend}
use Rattle.text.{specs.Lanes.is_field_end, proofs.Encodings.pair_read}
use Rattle.text.specs.Lanes.{AreDigits, Decodes, IsDigitRun, IsRun, digit_lane, first_set}

-- ---- where fields end

module _ (text : List ℕ) (at r : ℕ) (z : List ℕ) (room : at + 16 ≤ length text) (fits : (k : ℕ) → Fits w8 (get_or text k 0))
    (found : r ≡ first_set (mask_l (map (top 7) z) % 2 ^ 64)) (f : ℕ → ℕ) (lanes : z ≡ map f (chunk at 16 text)) where
  abbrev stops : ℕ → Bool
  stops x = top 7 (f x)

  counted : r ≡ prefix_len (λ x. not (stops x)) (chunk at 16 text)
  counted =
      let v = chunk at 16 text in
      let long = length-chunk at 16 text room in
      let mask = ap (λ l. mask_l l % 2 ^ 64) (ap (map (top 7)) lanes ∙ map-map (top 7) f v)
      ∙ mask_l-mod (map stops v) 64 (omega (arith, length-map v stops, long)) in
      found ∙ ap first_set mask ∙ first_set_mask_l stops v 16 long (omega arith)

  -- a lane stops just where a field ends
  pub run_is : agree_below stops is_field_end 256 ≡ true → IsRun text at r
  run_is all = record {
    within = run_in_chunk_le stops text at 16 r 0 room counted;
    joins = λ k from to. sym (agree_below_at stops is_field_end 256 (get_or text k 0) all (fits k).fits)
        ∙ run_in_chunk_fails stops text at 16 r 0 room counted k from to;
    stops = λ short. sym (agree_below_at stops is_field_end 256 (get_or text (at + r) 0) all (fits (at + r)).fits)
        ∙ run_in_chunk_stops stops text at 16 r 0 room counted short;
  }

  -- and just where no digit stands
  pub digit_run_is : agree_below stops (λ x. not (is_hex_digit x)) 256 ≡ true → IsDigitRun text at r
  digit_run_is all = record {
    within = run_in_chunk_le stops text at 16 r 0 room counted;
    digits = λ k from to. not-false _
        (sym (agree_below_at stops (λ x. not (is_hex_digit x)) 256 (get_or text k 0) all (fits k).fits)
        ∙ run_in_chunk_fails stops text at 16 r 0 room counted k from to);
    stops = λ short. not-true _
        (sym (agree_below_at stops (λ x. not (is_hex_digit x)) 256 (get_or text (at + r) 0) all (fits (at + r)).fits)
        ∙ run_in_chunk_stops stops text at 16 r 0 room counted short);
  }

-- ---- digits

abbrev pub plus : ℕ → ℕ → ℕ
plus a b = (a + b) % 2 ^ 8

abbrev pub is_above : ℕ → ℕ → ℕ
is_above a b = cond (ltb a b) 255 0

abbrev pub up : ℕ → ℕ → ℕ
up a b = a * 2 ^ b % 2 ^ 8

abbrev by_lanes : ℕ → List ℕ → List ℕ
by_lanes n digits =
    zip2 plus (zip2 bit_and digits (replicate n 15)) (sel_l (map (top 7) (zip2 is_above (replicate n 57) digits)) (replicate n 9) (replicate n 0))

picked : (b : Bool) → ◌≡◌ {A = ℕ} (cond (top 7 (cond b 255 0)) 9 0) (cond b 9 0)
picked true = refl
picked false = refl

lanes_are : (digits : List ℕ) → by_lanes (length digits) digits ≡ map digit_lane digits
lanes_are [] = refl
lanes_are (x ∷ xs) = ap₂ (λ (d : ℕ) (ds : List ℕ). d ∷ ds) (ap (plus (bit_and x 15)) (picked (ltb 57 x))) (lanes_are xs)

-- the values of sixteen digits
pub values_are : (digits : List ℕ) → length digits ≡ 16 → by_lanes 16 digits ≡ map digit_lane digits
values_are digits long = subst (λ n. by_lanes n digits ≡ map digit_lane digits) long (lanes_are digits)

abbrev is_value : ℕ → Bool
is_value c = not (is_hex_digit c) || (eqb (digit_lane c) (unwrap_or (hex_digit_value c) 16) && ltb (digit_lane c) 16)

-- the value of a digit
value_is : (c : ℕ) → c < 256 → is_hex_digit c ≡ true → (digit_lane c ≡ unwrap_or (hex_digit_value c) 16) × (digit_lane c < 16)
value_is c fits digit =
    let all = agree_below_at is_value (λ _. true) 256 c refl fits in
    let both = and_parts _ _ (rw digit at all) in
    (eqb-true _ _ both.0, ltb-true _ _ both.1)

abbrev evens : List ℕ
evens = 0 ∷ 2 ∷ 4 ∷ 6 ∷ 8 ∷ 10 ∷ 12 ∷ 14 ∷ 16 ∷ 18 ∷ 20 ∷ 22 ∷ 24 ∷ 26 ∷ 28 ∷ 30 ∷ []

abbrev odds : List ℕ
odds = 1 ∷ 3 ∷ 5 ∷ 7 ∷ 9 ∷ 11 ∷ 13 ∷ 15 ∷ 17 ∷ 19 ∷ 21 ∷ 23 ∷ 25 ∷ 27 ∷ 29 ∷ 31 ∷ []

module _ (text : List ℕ) (at : ℕ) (room : at + 32 ≤ length text) (front back : List ℕ)
    (front_is : front ≡ map digit_lane (chunk at 16 text)) (back_is : back ≡ map digit_lane (chunk (at + 16) 16 text)) where
  both_are : front ++ back ≡ map digit_lane (chunk at 32 text)
  both_are =
      let rest = ap (take 16) (drop-drop 16 at text) in
      ap₂ (λ (x y : List ℕ). x ++ y) front_is back_is ∙ sym (map-append digit_lane (chunk at 16 text) (chunk (at + 16) 16 text))
      ∙ ap (map digit_lane) (ap (λ l. chunk at 16 text ++ l) (sym rest) ∙ sym (take-add 16 16 (drop at text)))

  at_lane : (k : ℕ) → k < 32 → get_or (front ++ back) k 0 ≡ digit_lane (get_or text (at + k) 0)
  at_lane k h =
      let v = chunk at 32 text in
      let long = length-chunk at 32 text room in
      ap (λ l. get_or l k 0) both_are ∙ get_or-map digit_lane v k 0 0 (omega (arith, long)) ∙ ap digit_lane (get_or-chunk at 32 text k 0 h)

  -- the lanes at even and at odd places
  high_at : (k : ℕ) → k < 16 → get_or (pick_l 0 (front ++ back) evens) k 0 ≡ digit_lane (get_or text (at + 2 * k) 0)
  high_at k h =
      let place = eqb-true _ _ (agree_below_at (λ j. eqb (get_or evens j 0) (2 * j)) (λ _. true) 16 k refl h) in
      get_or-map (λ j. get_or (front ++ back) j 0) evens k 0 0 h ∙ ap (λ j. get_or (front ++ back) j 0) place ∙ at_lane (2 * k) (omega arith)

  low_at : (k : ℕ) → k < 16 → get_or (pick_l 0 (front ++ back) odds) k 0 ≡ digit_lane (get_or text (at + 2 * k + 1) 0)
  low_at k h =
      let place = eqb-true _ _ (agree_below_at (λ j. eqb (get_or odds j 0) (2 * j + 1)) (λ _. true) 16 k refl h) in
      let there : at + (2 * k + 1) ≡ at + 2 * k + 1 = omega arith in
      get_or-map (λ j. get_or (front ++ back) j 0) odds k 0 0 h ∙ ap (λ j. get_or (front ++ back) j 0) place ∙ at_lane (2 * k + 1) (omega arith)
      ∙ ap (λ j. digit_lane (get_or text j 0)) there

  -- sixteen pairs of digits write sixteen bytes
  pub block_is : ((k : ℕ) → Fits w8 (get_or text k 0)) → AreDigits text at → AreDigits text (at + 16)
      → Decodes text at (zip2 plus (zip2 up (pick_l 0 (front ++ back) evens) (replicate 16 4)) (pick_l 0 (front ++ back) odds))
  block_is fits first second = record { count = refl; pairs = pair }
    where
      digit : (k : ℕ) → k < 32 → is_hex_digit (get_or text (at + k) 0) ≡ true
      digit k h =
          elim (cases_lt k 16) [ inl early ↦ first (at + k) (omega arith) (omega arith) | inr late ↦ second (at + k) (omega arith) (omega arith) ]

      pair : (k : ℕ) → k < 16 → pair_value (get_or text (at + 2 * k) 0) (get_or text (at + 2 * k + 1) 0) (at + 2 * k)
          ≡ Ok (get_or (zip2 plus (zip2 up (pick_l 0 (front ++ back) evens) (replicate 16 4)) (pick_l 0 (front ++ back) odds)) k 0)
      pair k h =
          let high = get_or text (at + 2 * k) 0 in
          let low = get_or text (at + 2 * k + 1) 0 in
          let there : at + (2 * k + 1) ≡ at + 2 * k + 1 = omega arith in
          let a = value_is high (fits (at + 2 * k)).fits (digit (2 * k) (omega arith)) in
          let b = value_is low (fits (at + 2 * k + 1)).fits (subst (λ j. is_hex_digit (get_or text j 0) ≡ true) there (digit (2 * k + 1) (omega arith))) in
          let lane = get_or-zip2 plus (zip2 up (pick_l 0 (front ++ back) evens) (replicate 16 4)) (pick_l 0 (front ++ back) odds) k 0 0 0 h h in
          let shifted = get_or-zip2 up (pick_l 0 (front ++ back) evens) (replicate 16 4) k 0 0 0 h h in
          let four : get_or (replicate 16 4) k 0 ≡ 4 = get_or-replicate {A = ℕ} 16 k 4 0 h in
          let value = lane ∙ ap₂ plus (shifted ∙ ap₂ up (high_at k h) four) (low_at k h) in
          let sum : plus (up (digit_lane high) 4) (digit_lane low) ≡ digit_lane high * 16 + digit_lane low = omega (arith, a.1, b.1) in
          pair_read high low (at + 2 * k) (digit_lane high) (digit_lane low) a.0 b.0 (omega (arith, a.1)) (omega (arith, b.1)) ∙ ap Ok (sym (value ∙ sum))

-- ---- the bytes so far

-- the bytes of the first pairs are those before a place
abbrev pub AreDecoded : List ℕ → List ℕ → ℕ → Type 0
AreDecoded digits out at = decode_pairs 0 digits ≡ prepend (take at out) (decode_pairs (2 * at) (drop (2 * at) digits))

-- one byte more, which is there already
decoded_next : (digits out : List ℕ) (at : ℕ) → 2 * at + 1 < length digits → at < length out
    → pair_value (get_or digits (2 * at) 0) (get_or digits (2 * at + 1) 0) (2 * at) ≡ Ok (get_or out at 0)
    → AreDecoded digits out at → AreDecoded digits out (at + 1)
decoded_next digits out at fits room ok before =
    subst (λ l. AreDecoded digits l (at + 1)) (set-get_or out at 0) (decode_step digits out at (get_or out at 0) fits room ok before)

-- sixteen bytes more
pub decoded_block : (digits out bytes : List ℕ) (at : ℕ) → Decodes digits (2 * at) bytes → at + 16 ≤ length out → length digits ≡ 2 * length out
    → AreDecoded digits out at → AreDecoded digits (put_chunk at out bytes) (at + 16)
decoded_block digits out bytes at d room sized before = steps 16 (omega arith)
  where
    front : take at (put_chunk at out bytes) ≡ take at out
    front =
        let wider = take_more_put_chunk at out bytes (at + 16) (omega (arith, d.count)) room in
        let long : at ≤ length (take at out) = omega (arith, length-take-le at out (omega arith)) in
        sym (take-take at (at + 16) (put_chunk at out bytes) (omega arith)) ∙ ap (take at) wider ∙ take-append-le at (take at out) bytes long
        ∙ take-take at at out (omega arith)

    steps : (n : ℕ) → n ≤ 16 → AreDecoded digits (put_chunk at out bytes) (at + n)
    steps zero h =
        let same : at + 0 ≡ at = omega arith in
        subst (λ k. AreDecoded digits (put_chunk at out bytes) k) (sym same)
        (subst (λ l. decode_pairs 0 digits ≡ prepend l (decode_pairs (2 * at) (drop (2 * at) digits))) (sym front) before)
    steps (suc n) h =
        let next : at + n + 1 ≡ at + suc n = omega arith in
        let place : 2 * at + 2 * n ≡ 2 * (at + n) = omega arith in
        let long = length-put_chunk at out bytes in
        let byte = get_or-put_chunk_at at out bytes n 0 (omega (arith, d.count)) (omega (arith, d.count)) in
        let ok = subst (λ p. pair_value (get_or digits p 0) (get_or digits (p + 1) 0) p ≡ Ok (get_or bytes n 0)) place (d.pairs n (omega arith))
        ∙ ap Ok (sym byte) in
        subst (λ k. AreDecoded digits (put_chunk at out bytes) k) next
        (decoded_next digits (put_chunk at out bytes) (at + n) (omega arith) (omega (arith, long)) ok (steps n (omega arith)))
