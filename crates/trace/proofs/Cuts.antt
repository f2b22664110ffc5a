-- How the fields and the records of a text are cut, by the steps of csv's machine.
use Rattle.std.proofs.Common.{◌≡◌, ◌≢◌, ℕ, zero, suc, subst, ◌+◌, ◌-◌, ◌<◌, ◌≤◌, Bool, true, false, List, [], ◌∷◌, ◌++◌, length, take, drop, get_or, refl, ap}
use Rattle.std.proofs.Common.{sym, ◌∙◌, arith, length-drop, get_or-drop}
use Rattle.std.specs.Prelude.{◌==◌, ◌||◌}
use Rattle.std.proofs.lemmas.{List.drop-drop, List.drop_all, List.drop_more, List.length-take-le, List.take_more, Bool.eqb-true}
use Rattle.csv.specs.{Machine.Runs, Machine.next_record, Machine.step, Reading.default_config, declared.parser.State.State}
use Rattle.csv.proofs.{ReadFacts.part-rest, ReadFacts.run-copies, ReadFacts.runs-step, RoundTrip.after-quote-same, RoundTrip.start-same}
use Rattle.csv.specs.declared.parser.Action.TheVariants as act
use Rattle.csv.specs.declared.parser.State.TheVariants as st
use Rattle.trace.specs.Cutting.{EndsPlain, EndsQuoted, IsField, Joins, StandsBefore, begins_with, ends_field, read_from}
use Rattle.text.specs.Lanes.{is_field_end, is_line_end}

-- ---- bytes

pub or_false : (a b : Bool) → (a || b) ≡ false → (a ≡ false) × (b ≡ false)
or_false true b h = cc h
or_false false b h = (refl, h)

-- a text that begins with a byte, by its first byte
pub begins : (byte : ℕ) (xs : List ℕ) → begins_with byte xs ≡ true → xs ≡ byte ∷ drop 1 xs
begins byte [] h = cc h
begins byte (x ∷ xs) h = ap (λ v. v ∷ xs) (eqb-true x byte h)

-- the text behind a byte
pub behind : (at : ℕ) (text : List ℕ) → drop 1 (drop at text) ≡ drop (at + 1) text
behind at text = drop-drop 1 at text

-- what a place of a text begins with
pub begins-at : (byte at : ℕ) (text : List ℕ) → at < length text → begins_with byte (drop at text) ≡ (get_or text at 0 == byte)
begins-at byte at text h = ap (begins_with byte) (drop_more text at 0 h)

-- ---- a field

-- a byte that ends no field joins one that has no quotes open
joins-field : (c : ℕ) → is_field_end c ≡ false → step default_config st.InField c ≡ (st.InField, act.Copy)
joins-field c h = let p = or_false (c == 44) (is_line_end c) h in rw (p.0, p.1) refl

-- a byte that is no quote joins one that has
joins-quoted : (c : ℕ) → (c == 34) ≡ false → step default_config st.InQuoted c ≡ (st.InQuoted, act.Copy)
joins-quoted c h = rw h refl

-- a part of a text, one byte longer
pub part-more : (text : List ℕ) (start at : ℕ) → start ≤ at → at < length text
    → take (at + 1 - start) (drop start text) ≡ take (at - start) (drop start text) ++ get_or text at 0 ∷ []
part-more text start at low high =
    let one : at + 1 - start ≡ (at - start) + 1 = omega arith in
    let there : start + (at - start) ≡ at = omega arith in
    let below : at - start < length (drop start text) = omega (arith, length-drop start text) in
    ap (λ n. take n (drop start text)) one ∙ take_more (drop start text) (at - start) 0 below
    ∙ ap (λ v. take (at - start) (drop start text) ++ v ∷ []) (get_or-drop start text (at - start) 0 ∙ ap (λ k. get_or text k 0) there)

pub joins-none : (s : State) (text : List ℕ) (start : ℕ) → start ≤ length text → Joins s text start start
unfolding Runs
joins-none s text start h =
    let none : start - start ≡ 0 = omega arith in
    record { low = omega arith; high = h; runs = rw none tt }

joins-more : (s : State) (text : List ℕ) (start at : ℕ) → Joins s text start at → at < length text
    → step default_config s (get_or text at 0) ≡ (s, act.Copy) → Joins s text start (at + 1)
joins-more s text start at h below joins = record {
  low = omega (arith, h.low);
  high = omega arith;
  runs = rw (part-more text start at h.low below) (runs-step default_config s _ (get_or text at 0) h.runs joins);
}

-- one byte more of a field
pub plain-more : (text : List ℕ) (start at : ℕ) → Joins st.InField text start at → at < length text → is_field_end (get_or text at 0) ≡ false
    → Joins st.InField text start (at + 1)
plain-more text start at h below n = joins-more st.InField text start at h below (joins-field (get_or text at 0) n)

pub quoted-more : (text : List ℕ) (start at : ℕ) → Joins st.InQuoted text start at → at < length text → (get_or text at 0 == 34) ≡ false
    → Joins st.InQuoted text start (at + 1)
quoted-more text start at h below n = joins-more st.InQuoted text start at h below (joins-quoted (get_or text at 0) n)

-- so many bytes more
pub plain-run : (text : List ℕ) (start at run : ℕ) → Joins st.InField text start at → at + run ≤ length text
    → ((k : ℕ) → at ≤ k → k < at + run → is_field_end (get_or text k 0) ≡ false) → Joins st.InField text start (at + run)
plain-run text start at zero h fits joins =
    let same : at ≡ at + zero = omega arith in
    subst (λ k. Joins st.InField text start k) same h
plain-run text start at (suc run) h fits joins =
    let next : at + run + 1 ≡ at + suc run = omega arith in
    let before = plain-run text start at run h (omega arith) (λ k from to. joins k from (omega arith)) in
    subst (λ k. Joins st.InField text start k) next (plain-more text start (at + run) before (omega arith) (joins (at + run) (omega arith) (omega arith)))

-- a field ends at a byte that ends fields, and at the end of the text
pub stops-at : (text : List ℕ) (at : ℕ) → at < length text → is_field_end (get_or text at 0) ≡ true → ends_field (drop at text) ≡ true
stops-at text at below h = ap ends_field (drop_more text at 0 below) ∙ h

-- bytes that only join the field at hand
reads-joined : (s : State) (text : List ℕ) (start end : ℕ) (fields : List (List ℕ)) (field : List ℕ) → Joins s text start end
    → read_from s fields field (drop start text) ≡ read_from s fields (field ++ take (end - start) (drop start text)) (drop end text)
reads-joined s text start end fields field h =
    let there : start + (end - start) ≡ end = omega (arith, h.low) in
    let part = take (end - start) (drop start text) in
    ap (read_from s fields field) (part-rest start (end - start) text)
    ∙ run-copies default_config s fields field part (drop (start + (end - start)) text) h.runs
    ∙ ap (λ n. read_from s fields (field ++ part) (drop n text)) there

-- a field that begins with no quote
plain-begins : (fields : List (List ℕ)) (xs : List ℕ) → begins_with 34 xs ≡ false → read_from st.StartField fields [] xs ≡ read_from st.InField fields [] xs
unfolding next_record
plain-begins fields [] h = refl
plain-begins fields (x ∷ xs) h = start-same fields [] x xs h

pub plain-field : (text : List ℕ) (start end : ℕ) → begins_with 34 (drop start text) ≡ false → EndsPlain text start end
    → IsField text start end (take (end - start) (drop start text))
plain-field text start end h e = record {
  low = e.joins.low;
  high = e.joins.high;
  reads = λ fields. plain-begins fields (drop start text) h ∙ reads-joined st.InField text start end fields [] e.joins;
  stops = e.stops;
}

-- its value stands right before its end
pub stands-before : (text : List ℕ) (start end : ℕ) → start ≤ end → end ≤ length text → StandsBefore text end (take (end - start) (drop start text))
stands-before text start end low high =
    let long : length (take (end - start) (drop start text)) ≡ end - start =
    length-take-le (end - start) (drop start text) (omega (arith, length-drop start text)) in
    let there : end - (end - start) ≡ start = omega arith in
    record { low = omega (arith, long); is = rw (long, there) refl }

-- ---- a field that begins with a quote

-- its quotes are open at a place, behind this part of its value
pub record IsOpen (text : List ℕ) (start at : ℕ) : Type 0 where
  pub low : start < at
  pub high : at ≤ length text
  pub value : List ℕ
  pub reads : (fields : List (List ℕ)) → read_from st.StartField fields [] (drop start text) ≡ read_from st.InQuoted fields value (drop at text)

-- a quote opens a field, and closes its quotes
quote-opens : (fields : List (List ℕ)) (xs : List ℕ) → read_from st.StartField fields [] (34 ∷ xs) ≡ read_from st.InQuoted fields [] xs
unfolding next_record
quote-opens fields xs = refl

quote-closes : (fields : List (List ℕ)) (field xs : List ℕ) → read_from st.InQuoted fields field (34 ∷ xs) ≡ read_from st.AfterQuote fields field xs
unfolding next_record
quote-closes fields field xs = refl

-- a second quote stands for one, and opens them again
quote-again : (fields : List (List ℕ)) (field xs : List ℕ) → read_from st.AfterQuote fields field (34 ∷ xs) ≡ read_from st.InQuoted fields (field ++ 34 ∷ []) xs
unfolding next_record
quote-again fields field xs = refl

-- without one the field goes on as one without quotes
after-quotes : (fields : List (List ℕ)) (field xs : List ℕ) → begins_with 34 xs ≡ false
    → read_from st.AfterQuote fields field xs ≡ read_from st.InField fields field xs
unfolding next_record
after-quotes fields field [] h = refl
after-quotes fields field (x ∷ xs) h = after-quote-same fields field x xs h

-- at the end of the text a field ends though its quotes are open
quotes-end : (fields : List (List ℕ)) (field : List ℕ) → read_from st.InQuoted fields field [] ≡ read_from st.InField fields field []
unfolding next_record
quotes-end fields field = refl

-- a place that begins with a byte lies within the text
pub within : (byte at : ℕ) (text : List ℕ) → begins_with byte (drop at text) ≡ true → at < length text
within byte at text h = by (drop at text) refl h
  where
    by : (xs : List ℕ) → drop at text ≡ xs → begins_with byte xs ≡ true → at < length text
    by [] e n = cc n
    by (x ∷ xs) e n = omega (arith, length-drop at text, ap length e)

pub opens : (text : List ℕ) (start : ℕ) → begins_with 34 (drop start text) ≡ true → IsOpen text start (start + 1)
opens text start h = record {
  low = omega arith;
  high = omega (arith, within 34 start text h);
  value = [];
  reads = λ fields.
      ap (read_from st.StartField fields []) (begins 34 (drop start text) h)
      ∙ quote-opens fields (drop 1 (drop start text))
      ∙ ap (read_from st.InQuoted fields []) (behind start text);
}

-- the value of a field whose quotes are open, up to a place
abbrev grown : (text : List ℕ) (start at quote : ℕ) → IsOpen text start at → List ℕ
grown text start at quote o = o.value ++ take (quote - at) (drop at text)

reads-quoted : (text : List ℕ) (start at quote : ℕ) (o : IsOpen text start at) → Joins st.InQuoted text at quote → (fields : List (List ℕ))
    → read_from st.StartField fields [] (drop start text) ≡ read_from st.InQuoted fields (grown text start at quote o) (drop quote text)
reads-quoted text start at quote o h fields = o.reads fields ∙ reads-joined st.InQuoted text at quote fields o.value h

-- no further quote
pub open-end : (text : List ℕ) (start at quote : ℕ) → IsOpen text start at → EndsQuoted text at quote → quote ≡ length text
    → (value : List ℕ) × IsField text start quote value
open-end text start at quote o h e =
    let over : drop quote text ≡ [] = drop_all quote text (omega (arith, e)) in
    let value = grown text start at quote o in (
      value,
      record {
        low = omega (arith, o.low, h.joins.low);
        high = h.joins.high;
        reads = λ fields. reads-quoted text start at quote o h.joins fields ∙ ap (read_from st.InQuoted fields value) over
            ∙ quotes-end fields value ∙ ap (read_from st.InField fields value) (sym over);
        stops = ap ends_field over;
      },
    )

reads-closed : (text : List ℕ) (start at quote : ℕ) (o : IsOpen text start at) → Joins st.InQuoted text at quote
    → begins_with 34 (drop quote text) ≡ true → (fields : List (List ℕ))
    → read_from st.StartField fields [] (drop start text) ≡ read_from st.AfterQuote fields (grown text start at quote o) (drop (quote + 1) text)
reads-closed text start at quote o h q fields =
    let value = grown text start at quote o in
    reads-quoted text start at quote o h fields
    ∙ ap (read_from st.InQuoted fields value) (begins 34 (drop quote text) q)
    ∙ quote-closes fields value (drop 1 (drop quote text))
    ∙ ap (read_from st.AfterQuote fields value) (behind quote text)

-- two quotes
pub open-more : (text : List ℕ) (start at quote : ℕ) → IsOpen text start at → EndsQuoted text at quote → quote ≢ length text
    → begins_with 34 (drop (quote + 1) text) ≡ true
    → IsOpen text start (quote + 2)
open-more text start at quote o h n q =
    let value = grown text start at quote o in
    let inside = within 34 (quote + 1) text q in
    let next : quote + 1 + 1 ≡ quote + 2 = omega arith in
    record {
      low = omega (arith, o.low, h.joins.low);
      high = omega (arith, inside);
      value = value ++ 34 ∷ [];
      reads = λ fields. reads-closed text start at quote o h.joins (h.stops n) fields
          ∙ ap (read_from st.AfterQuote fields value) (begins 34 (drop (quote + 1) text) q)
          ∙ quote-again fields value (drop 1 (drop (quote + 1) text))
          ∙ ap (read_from st.InQuoted fields (value ++ 34 ∷ [])) (behind (quote + 1) text ∙ ap (λ k. drop k text) next);
    }

-- one quote, and then bytes without quotes
pub open-closed : (text : List ℕ) (start at quote end : ℕ) → IsOpen text start at → EndsQuoted text at quote → quote ≢ length text
    → begins_with 34 (drop (quote + 1) text) ≡ false
    → EndsPlain text (quote + 1) end → (value : List ℕ) × IsField text start end value
open-closed text start at quote end o h n q e =
    let value = grown text start at quote o in (
      value ++ take (end - (quote + 1)) (drop (quote + 1) text),
      record {
        low = omega (arith, o.low, h.joins.low, e.joins.low);
        high = e.joins.high;
        reads = λ fields. reads-closed text start at quote o h.joins (h.stops n) fields
            ∙ after-quotes fields value (drop (quote + 1) text) q
            ∙ reads-joined st.InField text (quote + 1) end fields value e.joins;
        stops = e.stops;
      },
    )
