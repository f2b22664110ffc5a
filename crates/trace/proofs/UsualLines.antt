-- Lines of the usual form, field by field: the size of numbers of few digits, and what is left of a text.
use Rattle.std.proofs.Common.{ℕ, ◌^◌, ◌<◌, ◌≤◌, lit<, ◌≡◌, zero, suc, ◌+◌, ◌-◌, ◌*◌, ◌/◌, ◌%◌, ◌⊎◌, inl, inr, Bool, true, false, List, [], ◌∷◌, ◌++◌, length}
use Rattle.std.proofs.Common.{take, drop, get_or, Ok, refl, ap, sym, ◌∙◌, subst, arith, length-drop, get_or-drop}
use Rattle.std.proofs.Math.Nat.{pow-le-pow_right}
use Rattle.std.specs.Prelude.{◌==◌, MatchBool, codes}
use Rattle.std.specs.Char.{digit_value, is_ascii_digit}
use Rattle.std.specs.Str.{all_ascii_digits}
use Rattle.std.specs.Str.Parse.{digits_value}
use Rattle.std.proofs.lemmas.Bool.{and_parts, cases_lt, eqb-true}
use Rattle.std.proofs.lemmas.Int.Digits.{digits_value_push}
use Rattle.std.proofs.lemmas.List.{drop-drop, drop_at, drop_more, get_or-take, length-take-le, take_at}
use Rattle.csv.specs.Machine.{Runs}
use Rattle.csv.specs.Reading.{default_config, strip_bom}
use Rattle.csv.specs.declared.parser.State.TheVariants as st
use Rattle.geometry.specs.Geometry.{page_bytes_of, sectors_of}
use Rattle.geometry.specs.declared.geometry.Geometry.{Geometry}
use Rattle.hex.specs.Hex.{is_hex_digit}
use Rattle.trace.specs.Cutting.{EndsPlain, Joins, begins_with, ends_field, ends_no_line, next_records}
use Rattle.text.specs.Lanes.{is_field_end}
use Rattle.text.specs.Digits.{EndsDigits}
use Rattle.trace.specs.Trace.{number_below, op_of, records_of, workers_of}
use Rattle.trace.specs.declared.commands.Op.TheVariants as op
use Rattle.trace.specs.declared.commands.Op.{Op}
use Rattle.trace.specs.Usual.{IsLineStart, IsNumber, IsOpName, IsUsual, IsUsualData, part}
use Rattle.trace.specs.declared.fault.TraceFaultKind.{TraceFaultKind}
use Rattle.trace.specs.declared.usual.Number.{Number}
use Rattle.trace.specs.declared.usual.OpName.{OpName}
use Rattle.trace.proofs.Checks.{accepts}
use Rattle.trace.proofs.Data.{few_digits, makes_none, makes_write}
use Rattle.text.proofs.Encodings.{pairs_are}
use Rattle.trace.proofs.Cuts.{begins, begins-at, behind, joins-none, part-more, plain-field, plain-more, plain-run, stops-at, within}
use Rattle.trace.proofs.Records.{Reads, lf_records, reads-last, reads-next, record-begins, stays}

-- seven digits write less than ten millions
pub ten_to : (i : ℕ) → i ≤ 7 → 10 ^ i ≤ 10 ^ 7
ten_to i h = pow-le-pow_right (lit< tt) h

-- ---- bytes

-- a decimal digit is no byte that means something to csv
digit_is_none : (c byte : ℕ) → is_ascii_digit c ≡ true → is_ascii_digit byte ≡ false → (c == byte) ≡ false
digit_is_none c byte h n = by (c == byte) refl
  where
    by : (b : Bool) → (c == byte) ≡ b → (c == byte) ≡ false
    by true e = let same : c ≡ byte = eqb-true c byte e in cc (sym h ∙ ap is_ascii_digit same ∙ n)
    by false e = e

pub digit_joins : (c : ℕ) → is_ascii_digit c ≡ true → is_field_end c ≡ false
digit_joins c h = rw (digit_is_none c 44 h refl, digit_is_none c 13 h refl, digit_is_none c 10 h refl) refl

hex_is_none : (c byte : ℕ) → is_hex_digit c ≡ true → is_hex_digit byte ≡ false → (c == byte) ≡ false
hex_is_none c byte h n = by (c == byte) refl
  where
    by : (b : Bool) → (c == byte) ≡ b → (c == byte) ≡ false
    by true e = let same : c ≡ byte = eqb-true c byte e in cc (sym h ∙ ap is_hex_digit same ∙ n)
    by false e = e

pub hex_joins : (c : ℕ) → is_hex_digit c ≡ true → is_field_end c ≡ false
hex_joins c h = rw (hex_is_none c 44 h refl, hex_is_none c 13 h refl, hex_is_none c 10 h refl) refl

-- ---- numbers

-- the number of the digits from a place on, as far as another
pub record IsNumberSoFar (text : List ℕ) (start at value : ℕ) : Type 0 where
  pub joins : Joins st.InField text start at
  pub digits : all_ascii_digits (part text start at) ≡ true
  pub is : value ≡ digits_value 10 (part text start at)
  pub small : value < 10 ^ (at - start)

pub none_so_far : (text : List ℕ) (start : ℕ) → start ≤ length text → IsNumberSoFar text start start 0
none_so_far text start h =
    let none : start - start ≡ 0 = omega arith in
    record { joins = joins-none st.InField text start h; digits = rw none refl; is = rw none refl; small = rw none (omega arith) }

digits_push_one : (xs : List ℕ) (c : ℕ) → all_ascii_digits xs ≡ true → is_ascii_digit c ≡ true → all_ascii_digits (xs ++ c ∷ []) ≡ true
digits_push_one [] c h d = rw d refl
digits_push_one (x ∷ xs) c h d =
    let p = and_parts (is_ascii_digit x) (all_ascii_digits xs) h in
    rw (p.0, digits_push_one xs c p.1 d) refl

value_of_digit : (c : ℕ) → is_ascii_digit c ≡ true → (48 ≤ c) × (c ≤ 57) × (digit_value c ≡ c - 48)
value_of_digit c h = grind (arith, h)

pub more_so_far : (text : List ℕ) (start at value next : ℕ) → IsNumberSoFar text start at value → at < length text → is_ascii_digit (get_or text at 0) ≡ true
    → next ≡ 10 * value + (get_or text at 0 - 48) → IsNumberSoFar text start (at + 1) next
more_so_far text start at value next h below digit e =
    let c = get_or text at 0 in
    let more = part-more text start at h.joins.low below in
    let v = value_of_digit c digit in
    let pushed = digits_value_push 10 (part text start at) c in
    let exponent : at + 1 - start ≡ suc (at - start) = omega (arith, h.joins.low) in
    record {
      joins = plain-more text start at h.joins below (digit_joins c digit);
      digits = rw more (digits_push_one (part text start at) c h.digits digit);
      is = rw more (omega (arith, e, h.is, pushed, v.2));
      small = rw exponent (omega (arith, e, h.small, v.0, v.1));
    }

number_is : (bound n : ℕ) (otherwise : TraceFaultKind) (value : List ℕ) → 0 < length value → length value ≤ 7 → all_ascii_digits value ≡ true
    → n ≡ digits_value 10 value → n < bound
    → number_below bound otherwise value ≡ Ok n
unfolding number_below
number_is bound n otherwise value some few digits is below = rw (digits, ← is) (grind (arith, some, few, below))

first_digit : (text : List ℕ) (start n : ℕ) → start < length text → 0 < n → all_ascii_digits (take n (drop start text)) ≡ true
    → is_ascii_digit (get_or text start 0) ≡ true
first_digit text start zero below n h = absurd (omega arith)
first_digit text start (suc n) below m h = (and_parts (is_ascii_digit (get_or text start 0)) _ (rw (drop_more text start 0 below) at h)).0

-- a comma ends it
pub number_ends : (text : List ℕ) (start at value bound : ℕ) → IsNumberSoFar text start at value → at < length text → start < at → at ≤ start + 7
    → get_or text at 0 ≡ 44 → value < bound → IsNumber text start bound (record { value = value; end = at })
number_ends text start at value bound h below some few comma small =
    let digit = first_digit text start (at - start) (omega arith) (omega arith) h.digits in
    let long : length (part text start at) ≡ at - start = length-take-le (at - start) (drop start text) (omega (arith, length-drop start text)) in
    let no_quote = begins-at 34 start text (omega arith) ∙ digit_is_none (get_or text start 0) 34 digit refl in
    let ends : EndsPlain text start at = record { joins = h.joins; stops = stops-at text at below (rw comma refl) } in
    record {
      first = digit;
      ends = record { field = plain-field text start at no_quote ends; comma = begins-at 44 at text below ∙ rw comma refl; within = below };
      is = λ otherwise. number_is bound value otherwise (part text start at) (omega (arith, long)) (omega (arith, long)) h.digits h.is small;
      below = small;
    }

-- ---- names of ops

-- bytes that are no field's end and a comma behind them
pub op_there : (text : List ℕ) (start : ℕ) (name : List ℕ) (o : Op) (rest : List ℕ) → start ≤ length text → drop start text ≡ name ++ 44 ∷ rest
    → begins_with 34 (name ++ 44 ∷ rest) ≡ false
    → Runs default_config st.InField name → op_of name ≡ Ok o → IsOpName text start (record { op = o; end = start + length name })
op_there text start name o rest h is no_quote runs named =
    let n = length name in
    let count : start + n - start ≡ n = omega arith in
    let value : part text start (start + n) ≡ name = rw (count, is) (take_at name (44 ∷ rest) n refl) in
    let behind_name : drop (start + n) text ≡ 44 ∷ rest = sym (drop-drop n start text) ∙ ap (drop n) is ∙ drop_at name (44 ∷ rest) n refl in
    let comma : begins_with 44 (drop (start + n) text) ≡ true = rw behind_name refl in
    let inside = within 44 (start + n) text comma in
    let ends : EndsPlain text start (start + n) = record {
      joins = record { low = omega arith; high = omega (arith, inside); runs = rw value runs };
      stops = rw behind_name refl;
    } in
    record {
      value = part text start (start + n);
      ends = record { field = plain-field text start (start + n) (rw is no_quote) ends; comma = comma; within = inside };
      is = rw value named;
    }

-- the names of the ops
module _ (text : List ℕ) (start : ℕ) (h : start ≤ length text) where
  pub read_there : (rest : List ℕ) → drop start text ≡ codes "read" ++ 44 ∷ rest → IsOpName text start (record { op = op.Read; end = start + 4 })
  unfolding Runs op_of
  read_there rest is = op_there text start (codes "read") op.Read rest h is refl (refl, (refl, (refl, (refl, tt)))) refl

  pub write_there : (rest : List ℕ) → drop start text ≡ codes "write" ++ 44 ∷ rest → IsOpName text start (record { op = op.Write; end = start + 5 })
  unfolding Runs op_of
  write_there rest is = op_there text start (codes "write") op.Write rest h is refl (refl, (refl, (refl, (refl, (refl, tt))))) refl

  pub trim_there : (rest : List ℕ) → drop start text ≡ codes "trim" ++ 44 ∷ rest → IsOpName text start (record { op = op.Trim; end = start + 4 })
  unfolding Runs op_of
  trim_there rest is = op_there text start (codes "trim") op.Trim rest h is refl (refl, (refl, (refl, (refl, tt)))) refl

  pub new_there : (rest : List ℕ) → drop start text ≡ codes "new" ++ 44 ∷ rest → IsOpName text start (record { op = op.New; end = start + 3 })
  unfolding Runs op_of
  new_there rest is = op_there text start (codes "new") op.New rest h is refl (refl, (refl, (refl, tt))) refl

-- ---- digits

get_or-part : (text : List ℕ) (start end k : ℕ) → k < end - start → get_or (part text start end) k 0 ≡ get_or text (start + k) 0
get_or-part text start end k h = get_or-take (end - start) (drop start text) k 0 h ∙ get_or-drop start text k 0

-- no quote stands where digits or a line feed do
no_quote_there : (text : List ℕ) (start end : ℕ) → EndsDigits text start end → begins_with 10 (drop end text) ≡ true → begins_with 34 (drop start text) ≡ false
no_quote_there text start end d feed = elim (cases_lt start end) [
  | inl some ↦ begins-at 34 start text (omega (arith, d.high)) ∙ hex_is_none (get_or text start 0) 34 (d.digits start (omega arith) some) refl
  | inr none ↦ let same : end ≡ start = omega (arith, d.low) in ap (begins_with 34) (begins 10 (drop start text) (rw same at feed))
]

-- ---- data

-- digits join a field, and an even number of them that a page has room for makes it
pub data_there : (text : List ℕ) (start end size : ℕ) (o : Op) → (o ≡ op.Write) ⊎ (o ≡ op.New) → EndsDigits text start end
    → begins_with 10 (drop end text) ≡ true
    → (end - start) % 2 ≡ 0 → (end - start) / 2 ≤ size → IsUsualData text start o size end
data_there text start end size o writes d feed even few =
    let there : start + (end - start) ≡ end = omega (arith, d.low) in
    let joins : Joins st.InField text start end = subst (λ k. Joins st.InField text start k) there
    (plain-run text start start (end - start) (joins-none st.InField text start (omega (arith, d.low, d.high))) (omega (arith, d.low, d.high))
    (λ k from to. hex_joins (get_or text k 0) (d.digits k from (omega (arith, d.low))))) in
    let ends : EndsPlain text start end = record { joins = joins; stops = ap ends_field (begins 10 (drop end text) feed) } in
    let long : length (part text start end) ≡ end - start = length-take-le (end - start) (drop start text) (omega (arith, length-drop start text, d.high)) in
    let pairs = pairs_are (part text start end) (ap (λ n. n % 2) long ∙ even)
    (λ k below. ap is_hex_digit (get_or-part text start end k (omega (arith, long))) ∙ d.digits (start + k) (omega arith) (omega (arith, long, d.low))) in
    record {
      field = plain-field text start end (no_quote_there text start end d feed) ends;
      feed = feed;
      made = λ worker sector. makes_write size o worker sector (part text start end) writes pairs (omega (arith, long, few));
    }

pub data_none_there : (text : List ℕ) (start size : ℕ) (o : Op) → (o ≡ op.Read) ⊎ (o ≡ op.Trim) → start ≤ length text
    → begins_with 10 (drop start text) ≡ true → IsUsualData text start o size start
data_none_there text start size o kinds h feed =
    let none : start - start ≡ 0 = omega arith in
    record {
      field = plain-field text start start (ap (begins_with 34) (begins 10 (drop start text) feed))
          (record { joins = joins-none st.InField text start h; stops = ap ends_field (begins 10 (drop start text) feed) });
      feed = feed;
      made = λ worker sector. makes_none size o worker sector (part text start start) kinds (rw none refl);
    }

-- ---- the record

line_lines : (text : List ℕ) (at start : ℕ) → at ≤ length text → start < length text → is_ascii_digit (get_or text start 0) ≡ true → IsLineStart text at start
    → records_of (drop at text) ≡ next_records (drop start text)
line_lines text at start h below digit s = by (begins_with 10 (drop at text)) refl s.is
  where
    by : (b : Bool) → begins_with 10 (drop at text) ≡ b → MatchBool b (start ≡ at + 1) (start ≡ at) → records_of (drop at text) ≡ next_records (drop start text)
    by true e is = ap records_of (begins 10 (drop at text) e) ∙ sym (lf_records (drop 1 (drop at text))) ∙ ap next_records (behind at text)
        ∙ ap (λ k. next_records (drop k text)) (sym is)
    by false e is =
        let first = drop_more text start 0 below in
        let strips : strip_bom (drop start text) ≡ drop start text =
        ap strip_bom first ∙ stays (get_or text start 0) (drop (start + 1) text) (digit_is_none (get_or text start 0) 239 digit refl) ∙ sym first in
        ap (λ k. records_of (drop k text)) (sym is) ∙ ap next_records strips

-- a digit begins no line end
digit_starts : (text : List ℕ) (start : ℕ) → start < length text → is_ascii_digit (get_or text start 0) ≡ true → Reads text start [] start
digit_starts text start below digit =
    let first = drop_more text start 0 below in
    let c = get_or text start 0 in
    record {
      low = omega arith;
      high = omega arith;
      same = record-begins (drop start text) (omega (arith, length-drop start text))
          (ap ends_no_line first ∙ rw (digit_is_none c 13 digit refl, digit_is_none c 10 digit refl) refl);
    }

feed_no_comma : (xs : List ℕ) → begins_with 10 xs ≡ true → begins_with 44 xs ≡ false
feed_no_comma xs h = ap (begins_with 44) (begins 10 xs h)

module _ (geo : Geometry) (text : List ℕ) (at start : ℕ) (h : at ≤ length text) (s : IsLineStart text at start)
    (worker : Number) (w : IsNumber text start (workers_of geo) worker) (name : OpName) (o : IsOpName text (worker.end + 1) name)
    (sector : Number) (t : IsNumber text (name.end + 1) (sectors_of geo) sector) (end : ℕ)
    (d : IsUsualData text (sector.end + 1) name.op (page_bytes_of geo) end) where
  abbrev worker_text : List ℕ
  worker_text = part text start worker.end

  abbrev sector_text : List ℕ
  sector_text = part text (name.end + 1) sector.end

  abbrev digits : List ℕ
  digits = part text (sector.end + 1) end

  first : Reads text start [] start
  first = digit_starts text start (omega (arith, w.ends.within, w.ends.field.low)) w.first

  second : Reads text start (worker_text ∷ []) (worker.end + 1)
  second = reads-next text start [] start worker.end worker_text first w.ends.field w.ends.comma

  third : Reads text start (worker_text ∷ o.value ∷ []) (name.end + 1)
  third = reads-next text start (worker_text ∷ []) (worker.end + 1) name.end o.value second o.ends.field o.ends.comma

  fourth : Reads text start (worker_text ∷ o.value ∷ sector_text ∷ []) (sector.end + 1)
  fourth = reads-next text start (worker_text ∷ o.value ∷ []) (name.end + 1) sector.end sector_text third t.ends.field t.ends.comma

  record_is : records_of (drop at text) ≡ (worker_text ∷ o.value ∷ sector_text ∷ digits ∷ []) ∷ records_of (drop end text)
  record_is =
      line_lines text at start h (omega (arith, w.ends.within, w.ends.field.low)) w.first s
      ∙ reads-last text start (worker_text ∷ o.value ∷ sector_text ∷ []) (sector.end + 1) end digits fourth d.field (feed_no_comma (drop end text) d.feed)

  start_low : at ≤ start
  start_low = by (begins_with 10 (drop at text)) s.is
    where
      by : (b : Bool) → MatchBool b (start ≡ at + 1) (start ≡ at) → at ≤ start
      by true e = omega arith
      by false e = omega arith

  pub usual_is : worker.value < 2 ^ 16 → sector.value < 2 ^ 24 → page_bytes_of geo ≤ 4096
      → IsUsual geo text at (record { head = record { worker = worker.value; op = name.op; sector = sector.value }; start = sector.end + 1; end = end })
  usual_is small fits size =
      let made = d.made worker.value sector.value in
      let few = few_digits (page_bytes_of geo) name.op digits made.fits in
      let long : length digits ≡ end - (sector.end + 1) =
      length-take-le (end - (sector.end + 1)) (drop (sector.end + 1) text) (omega (arith, length-drop (sector.end + 1) text, d.field.high)) in
      record {
        low = omega (arith, start_low, w.ends.field.low, o.ends.field.low, t.ends.field.low, d.field.low);
        order = d.field.low;
        high = d.field.high;
        fields = worker_text ∷ o.value ∷ sector_text ∷ digits ∷ [];
        first = record_is;
        is = accepts geo worker_text o.value sector_text digits worker.value (w.is _) name.op o.is sector.value (t.is _) _ made.is;
        fits = made.fits;
        sector = fits;
        few = omega (arith, few, long, size);
      }
