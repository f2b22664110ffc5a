-- How the records of a text are cut, from the fields that are cut.
use Rattle.std.proofs.Common.{◌≡◌, ◌≢◌, ℕ, ◌+◌, ◌<◌, ◌≤◌, Bool, true, false, List, [], ◌∷◌, ◌++◌, length, take, drop, get_or, Option, Some, None, refl, ap, sym}
use Rattle.std.{proofs.Common.◌∙◌, proofs.Common.arith, proofs.Common.length-drop, specs.Cmp.Lexicographic.pointwise, proofs.lemmas.Bool.Decides.Decides-eqb}
use Rattle.std.specs.Prelude.{◌==◌, ◌||◌, ◌&&◌, not, nat_eq, IfSome}
use Rattle.std.proofs.lemmas.{List.drop-drop, List.drop_all, List.drop_more, List.length_push, Bool.and_parts, Bool.eqb-true, Slice.Eq.starts_is}
use Rattle.csv.specs.Machine.{Read, ends_at_end, field_after, fields_after, in_field, is_end, next_record, step}
use Rattle.csv.specs.{Reading.default_config, Reading.is_bom, Reading.strip_bom, declared.parser.Action.Action, declared.parser.State.State}
use Rattle.csv.proofs.RoundTrip.{record-same}
use Rattle.csv.specs.declared.parser.Action.TheVariants as act
use Rattle.csv.specs.declared.parser.State.TheVariants as st
use Rattle.trace.specs.Cutting.{HasRecordedValues, CutsField, HasOtherFields, IsField, IsMarkEnd, IsRecord, StandsBefore, StartsRecord, begins_with, ends_field}
use Rattle.trace.specs.Cutting.{ends_no_line, fields_of_row, next_records, read_from, records_after}
use Rattle.text.specs.Lanes.{is_line_end}
use Rattle.trace.specs.{Trace.records_of, declared.cutting.Field.Field, declared.cutting.Row.Row}
use Rattle.trace.proofs.{Cuts.begins, Cuts.behind, Cuts.or_false, Cuts.within, Fields.after-none, Fields.after-some, Fields.both}

-- ---- between two records

-- starts from which the same record is read leave the same records
same_after : (s t : State) (xs ys : List ℕ) (o : Option Read) → ends_at_end s ≡ false → ends_at_end t ≡ false
    → read_from s [] [] xs ≡ o → read_from t [] [] ys ≡ o → records_after s xs ≡ records_after t ys
same_after s t xs ys None h k p q = after-none s xs p ∙ sym (after-none t ys q)
same_after s t xs ys (Some r) h k p q = after-some s xs r h p ∙ sym (after-some t ys r k q)

-- a line end between two records
skips : (c : ℕ) (xs : List ℕ) → is_line_end c ≡ true → read_from st.StartRecord [] [] (c ∷ xs) ≡ read_from st.StartRecord [] [] xs
unfolding next_record
skips c xs h = rw h refl

skips-cr : (xs : List ℕ) → read_from st.AfterCr [] [] xs ≡ read_from st.StartRecord [] [] xs
unfolding next_record
skips-cr [] = refl
skips-cr (x ∷ xs) = by (x == 10) refl
  where
    by : (b : Bool) → (x == 10) ≡ b → read_from st.AfterCr [] [] (x ∷ xs) ≡ read_from st.StartRecord [] [] (x ∷ xs)
    by true e = let same : x ≡ 10 = eqb-true x 10 e in rw same refl
    by false e = rw e refl

lines-skip : (c : ℕ) (xs : List ℕ) → is_line_end c ≡ true → next_records (c ∷ xs) ≡ next_records xs
lines-skip c xs h = same_after st.StartRecord st.StartRecord (c ∷ xs) xs _ refl refl (skips c xs h) refl

lines-cr : (xs : List ℕ) → records_after st.AfterCr xs ≡ next_records xs
lines-cr xs = same_after st.AfterCr st.StartRecord xs xs _ refl refl (skips-cr xs) refl

-- what is no first byte of a mark stays
pub stays : (c : ℕ) (xs : List ℕ) → (c == 239) ≡ false → strip_bom (c ∷ xs) ≡ c ∷ xs
unfolding strip_bom
stays c [] h = refl
stays c (x ∷ []) h = refl
stays c (x ∷ y ∷ xs) h = rw h refl

-- the records of a text that begins with a line end are those behind it
pub lf_records : (xs : List ℕ) → next_records xs ≡ records_of (10 ∷ xs)
lf_records xs = sym (ap next_records (stays 10 xs refl) ∙ lines-skip 10 xs refl)

cr_records : (xs : List ℕ) → records_after st.AfterCr xs ≡ records_of (13 ∷ xs)
cr_records xs = lines-cr xs ∙ sym (ap next_records (stays 13 xs refl) ∙ lines-skip 13 xs refl)

no_lines : next_records [] ≡ []
unfolding next_record
no_lines = after-none st.StartRecord [] refl

no_records : records_of [] ≡ []
unfolding strip_bom
no_records = no_lines

-- ---- the mark

-- the bytes of the mark
abbrev mark : List ℕ
mark = 239 ∷ 187 ∷ 191 ∷ []

-- the bytes of the mark are no others
is-mark : (a b c : ℕ) → is_bom a b c ≡ true → (a ≡ 239) × (b ≡ 187) × (c ≡ 191)
is-mark a b c h =
    let p = and_parts ((a == 239) && (b == 187)) (c == 191) h in
    let q = and_parts (a == 239) (b == 187) p.0 in
    (eqb-true a 239 q.0, eqb-true b 187 q.1, eqb-true c 191 p.1)

unmarked : (xs : List ℕ) → ((rest : List ℕ) → xs ≢ mark ++ rest) → strip_bom xs ≡ xs
unfolding strip_bom
unmarked [] n = refl
unmarked (a ∷ []) n = refl
unmarked (a ∷ b ∷ []) n = refl
unmarked (a ∷ b ∷ c ∷ xs) n = by (is_bom a b c) refl
  where
    by : (d : Bool) → is_bom a b c ≡ d → strip_bom (a ∷ b ∷ c ∷ xs) ≡ a ∷ b ∷ c ∷ xs
    by true e = let (p, q, r) = is-mark a b c e in absurd (n xs cc)
    by false e = rw e refl

marked : (xs rest : List ℕ) → xs ≡ mark ++ rest → strip_bom xs ≡ drop 3 xs
unfolding strip_bom
marked xs rest e = rw e refl

-- whether the mark stands at a place
pub mark-there : (text : List ℕ) (at : ℕ) (r : Bool) → at ≤ length text → r ≡ pointwise nat_eq mark (take 3 (drop at text)) → r ≡ true
    → IsMarkEnd text at (at + 3)
mark-there text at r h e there =
    let is = (starts_is Decides-eqb (drop at text) mark r e).0 there in
    let count : 3 ≤ length (drop at text) = omega (arith, ap length is) in
    record { low = omega arith; high = omega (arith, length-drop at text, count); strips = marked (drop at text) _ is ∙ drop-drop 3 at text }

pub mark-not_there : (text : List ℕ) (at : ℕ) (r : Bool) → at ≤ length text → r ≡ pointwise nat_eq mark (take 3 (drop at text)) → r ≡ false
    → IsMarkEnd text at at
mark-not_there text at r h e absent = record {
  low = omega arith;
  high = h;
  strips = unmarked (drop at text) (λ rest is. let there = (starts_is Decides-eqb (drop at text) mark r e).1 rest is in cc);
}

-- ---- within a record

-- what is read from a place on is the rest of the record that begins at `start`
pub record Reads (text : List ℕ) (start : ℕ) (fields : List (List ℕ)) (at : ℕ) : Type 0 where
  pub low : start ≤ at
  pub high : at ≤ length text
  pub same : read_from st.StartRecord [] [] (drop start text) ≡ read_from st.StartField fields [] (drop at text)

not_true : (b : Bool) → not b ≡ true → b ≡ false
not_true true h = cc h
not_true false h = refl

pub record-begins : (xs : List ℕ) → 0 < length xs → ends_no_line xs ≡ true → read_from st.StartRecord [] [] xs ≡ read_from st.StartField [] [] xs
record-begins [] n h = absurd (omega arith)
record-begins (x ∷ xs) n h =
    let p = or_false (x == 13) (x == 10) (not_true (is_line_end x) h) in
    record-same [] [] x xs p.0 p.1

-- line ends are passed over
pub starts-more : (text : List ℕ) (from at : ℕ) → next_records (drop from text) ≡ next_records (drop at text) → at < length text
    → is_line_end (get_or text at 0) ≡ true → next_records (drop from text) ≡ next_records (drop (at + 1) text)
starts-more text from at e below h = e ∙ ap next_records (drop_more text at 0 below) ∙ lines-skip (get_or text at 0) (drop (at + 1) text) h

pub reads-first : (text : List ℕ) (from start : ℕ) → StartsRecord text from start → start ≢ length text → Reads text start [] start
reads-first text from start h n = record {
  low = omega arith;
  high = h.high;
  same = record-begins (drop start text) (omega (arith, length-drop start text, h.high)) h.stops;
}

-- the record that was read up to the end of a field
ended : (text : List ℕ) (start : ℕ) (fields : List (List ℕ)) (at end : ℕ) (value : List ℕ) → Reads text start fields at → IsField text at end value
    → read_from st.StartRecord [] [] (drop start text) ≡ read_from st.InField fields value (drop end text)
ended text start fields at end value r f = r.same ∙ f.reads fields

comma-ends : (fields : List (List ℕ)) (value xs : List ℕ) → read_from st.InField fields value (44 ∷ xs) ≡ read_from st.StartField (fields ++ value ∷ []) [] xs
unfolding next_record
comma-ends fields value xs = refl

pub reads-next : (text : List ℕ) (start : ℕ) (fields : List (List ℕ)) (at end : ℕ) (value : List ℕ) → Reads text start fields at → IsField text at end value
    → begins_with 44 (drop end text) ≡ true → Reads text start (fields ++ value ∷ []) (end + 1)
reads-next text start fields at end value r f h = record {
  low = omega (arith, r.low, f.low);
  high = omega (arith, within 44 end text h);
  same = ended text start fields at end value r f
      ∙ ap (read_from st.InField fields value) (begins 44 (drop end text) h)
      ∙ comma-ends fields value (drop 1 (drop end text))
      ∙ ap (read_from st.StartField (fields ++ value ∷ []) []) (behind end text);
}

-- ---- the last field

-- a field that ends at no comma is its record's last
lines-last : (fields : List (List ℕ)) (value xs ys : List ℕ) → ends_field xs ≡ true → begins_with 44 xs ≡ false
    → read_from st.StartRecord [] [] ys ≡ read_from st.InField fields value xs → next_records ys ≡ (fields ++ value ∷ []) ∷ records_of xs
unfolding next_record
lines-last fields value [] ys e c r = after-some st.StartRecord ys _ refl r ∙ ap (λ v. (fields ++ value ∷ []) ∷ v) (no_lines ∙ sym no_records)
lines-last fields value (x ∷ xs) ys e c r = by (x == 13) refl (x == 10) refl
  where
    by : (b : Bool) → (x == 13) ≡ b → (d : Bool) → (x == 10) ≡ d → next_records ys ≡ (fields ++ value ∷ []) ∷ records_of (x ∷ xs)
    by true p d q =
        let is : x ≡ 13 = eqb-true x 13 p in
        let r' = rw is at r in
        rw is (after-some st.StartRecord ys (fields ++ value ∷ [], st.AfterCr, xs) refl r' ∙ ap (λ v. (fields ++ value ∷ []) ∷ v) (cr_records xs))
    by false p true q =
        let is : x ≡ 10 = eqb-true x 10 q in
        let r' = rw is at r in
        rw is (after-some st.StartRecord ys (fields ++ value ∷ [], st.StartRecord, xs) refl r' ∙ ap (λ v. (fields ++ value ∷ []) ∷ v) (lf_records xs))
    by false p false q = cc (rw (c, p, q) at e)

pub reads-last : (text : List ℕ) (start : ℕ) (fields : List (List ℕ)) (at end : ℕ) (value : List ℕ) → Reads text start fields at → IsField text at end value
    → begins_with 44 (drop end text) ≡ false → next_records (drop start text) ≡ (fields ++ value ∷ []) ∷ records_of (drop end text)
reads-last text start fields at end value r f h =
    lines-last fields value (drop end text) (drop start text) f.stops h (ended text start fields at end value r f)

-- ---- a record of more fields

-- the machine is within a record
abbrev is_inside : State → Bool
is_inside st.StartRecord = false
is_inside st.StartField = true
is_inside st.InField = true
is_inside st.InQuoted = true
is_inside st.AfterQuote = true
is_inside st.InEscape = false
is_inside st.InComment = false
is_inside st.AfterCr = false

-- a step that ends no record stays in it
abbrev StaysInside : State × Action → Type 0
StaysInside q = is_end q.1 ≡ false → is_inside q.0 ≡ true

inside-in_field : (c : ℕ) → StaysInside (in_field default_config c)
inside-in_field c = both StaysInside (c == 44) _ _ (λ _. refl) (both StaysInside ((c == 13) || (c == 10)) _ _ (λ e. cc e) (λ _. refl))

inside-step : (s : State) (c : ℕ) → is_inside s ≡ true → StaysInside (step default_config s c)
inside-step st.StartRecord c h = cc h
inside-step st.StartField c h = both StaysInside (c == 34) _ _ (λ _. refl) (inside-in_field c)
inside-step st.InField c h = inside-in_field c
inside-step st.InQuoted c h = both StaysInside (c == 34) _ _ (λ _. refl) (λ _. refl)
inside-step st.AfterQuote c h = both StaysInside (c == 34) _ _ (λ _. refl) (inside-in_field c)
inside-step st.InEscape c h = cc h
inside-step st.InComment c h = cc h
inside-step st.AfterCr c h = cc h

inside-ends : (s : State) → is_inside s ≡ true → ends_at_end s ≡ true
inside-ends st.StartRecord h = cc h
inside-ends st.StartField h = refl
inside-ends st.InField h = refl
inside-ends st.InQuoted h = refl
inside-ends st.AfterQuote h = refl
inside-ends st.InEscape h = cc h
inside-ends st.InComment h = cc h
inside-ends st.AfterCr h = cc h

-- an action takes no field away, and the one that ends the record adds one
fields-kept : (a : Action) (fields : List (List ℕ)) (field : List ℕ) → length fields ≤ length (fields_after a fields field)
fields-kept act.Skip fields field = omega arith
fields-kept act.Copy fields field = omega arith
fields-kept act.EndField fields field = omega (arith, length_push fields field)
fields-kept act.EndRecord fields field = omega (arith, length_push fields field)

fields-ended : (a : Action) (fields : List (List ℕ)) (field : List ℕ) → is_end a ≡ true → length fields < length (fields_after a fields field)
fields-ended act.EndRecord fields field h = omega (arith, length_push fields field)
fields-ended _ _ _ h = cc h

-- a record that is read on has more than these fields
more_fields : (s : State) (fields : List (List ℕ)) (field xs : List ℕ) → is_inside s ≡ true → (p : Read) × (read_from s fields field xs ≡ Some p)
    × (length fields < length p.0)
unfolding next_record
more_fields s fields field [] h = ((fields ++ field ∷ [], st.StartRecord, []), rw (inside-ends s h) refl, omega (arith, length_push fields field))
more_fields s fields field (c ∷ xs) h = by (is_end (step default_config s c).1) refl (more_fields (step default_config s c).0 _ _ xs)
  where
    by : (b : Bool) → is_end (step default_config s c).1 ≡ b
        → (is_inside (step default_config s c).0 ≡ true → (p : Read)
        × (next_record default_config (step default_config s c).0 (fields_after (step default_config s c).1 fields field)
        (field_after (step default_config s c).1 c field) xs ≡ Some p)
        × (length (fields_after (step default_config s c).1 fields field) < length p.0))
        → (p : Read) × (read_from s fields field (c ∷ xs) ≡ Some p) × (length fields < length p.0)
    by true e more = (
      (fields_after (step default_config s c).1 fields field, (step default_config s c).0, xs),
      rw e refl,
      fields-ended (step default_config s c).1 fields field e,
    )
    by false e more =
        let (p, is, count) = more (inside-step s c h e) in
        (p, rw e is, omega (arith, fields-kept (step default_config s c).1 fields field, count))

-- ---- what is cut

module _ (text : List ℕ) (at mark start : ℕ) (m : IsMarkEnd text at mark) (s : StartsRecord text mark start) where
  lines : records_of (drop at text) ≡ next_records (drop start text)
  lines = ap next_records m.strips ∙ s.same

  pub cut-end : start ≡ length text → records_of (drop at text) ≡ []
  cut-end e =
      let over : drop start text ≡ [] = drop_all start text (omega (arith, e)) in
      lines ∙ ap next_records over ∙ no_lines

  other-last : (fields : List (List ℕ)) (place end : ℕ) (value : List ℕ) → length fields < 3 → Reads text start fields place → IsField text place end value
      → begins_with 44 (drop end text) ≡ false → HasOtherFields text at
  other-last fields place end value few r f h = record {
    fields = fields ++ value ∷ [];
    others = records_of (drop end text);
    first = lines ∙ reads-last text start fields place end value r f h;
    count = λ e. omega (arith, length_push fields value, e, few);
  }

  other-more : (fields : List (List ℕ)) (place : ℕ) → length fields ≡ 4 → Reads text start fields place → HasOtherFields text at
  other-more fields place four r =
      let (p, is, count) = more_fields st.StartField fields [] (drop place text) refl in
      record {
        fields = p.0;
        others = records_after p.1 p.2;
        first = lines ∙ after-some st.StartRecord (drop start text) p refl (r.same ∙ is);
        count = λ e. omega (arith, count, four, e);
      }

  module _ (worker : Field) (w : CutsField text start worker) (n : start ≢ length text) where
    first : Reads text start [] start
    first = reads-first text mark start s n

    pub cut-one : worker.comma ≡ false → HasOtherFields text at
    cut-one c = other-last [] start worker.end w.value (omega arith) first w.is (sym w.comma ∙ c)

    module _ (wc : worker.comma ≡ true) (op : Field) (o : CutsField text (worker.end + 1) op) where
      second : Reads text start (w.value ∷ []) (worker.end + 1)
      second = reads-next text start [] start worker.end w.value first w.is (sym w.comma ∙ wc)

      pub cut-two : op.comma ≡ false → HasOtherFields text at
      cut-two c = other-last (w.value ∷ []) (worker.end + 1) op.end o.value (omega arith) second o.is (sym o.comma ∙ c)

      module _ (oc : op.comma ≡ true) (sector : Field) (t : CutsField text (op.end + 1) sector) where
        third : Reads text start (w.value ∷ o.value ∷ []) (op.end + 1)
        third = reads-next text start (w.value ∷ []) (worker.end + 1) op.end o.value second o.is (sym o.comma ∙ oc)

        pub cut-three : sector.comma ≡ false → HasOtherFields text at
        cut-three c = other-last (w.value ∷ o.value ∷ []) (op.end + 1) sector.end t.value (omega arith) third t.is (sym t.comma ∙ c)

        module _ (tc : sector.comma ≡ true) (digits : Field) (d : CutsField text (sector.end + 1) digits) where
          fourth : Reads text start (w.value ∷ o.value ∷ t.value ∷ []) (sector.end + 1)
          fourth = reads-next text start (w.value ∷ o.value ∷ []) (op.end + 1) sector.end t.value third t.is (sym t.comma ∙ tc)

          pub cut-five : digits.comma ≡ true → HasOtherFields text at
          cut-five c =
              let fifth = reads-next text start (w.value ∷ o.value ∷ t.value ∷ []) (sector.end + 1) digits.end d.value fourth d.is (sym d.comma ∙ c) in
              other-more (w.value ∷ o.value ∷ t.value ∷ d.value ∷ []) (digits.end + 1) refl fifth

          values-told : (row : Option Row) → HasRecordedValues row worker op sector digits
              → IfSome row (λ r. w.value ∷ o.value ∷ t.value ∷ d.value ∷ [] ≡ fields_of_row r)
          values-told None h = tt
          values-told (Some r) h =
              let a = rw h.worker at w.told in
              let b = rw h.op at o.told in
              let e = rw h.sector at t.told in
              let f = rw h.digits at d.told in
              cc

          place-told : (row : Option Row) → HasRecordedValues row worker op sector digits → IfSome row (λ r. StandsBefore text digits.end r.digits.now)
          place-told None h = tt
          place-told (Some r) h = rw h.digits at d.place

          pub cut-four : digits.comma ≡ false → (row : Option Row) → HasRecordedValues row worker op sector digits → IsRecord text at digits.end row
          cut-four c row h = record {
            low = omega (arith, m.low, s.low, w.is.low, o.is.low, t.is.low, d.is.low);
            high = d.is.high;
            fields = w.value ∷ o.value ∷ t.value ∷ d.value ∷ [];
            first = lines ∙ reads-last text start (w.value ∷ o.value ∷ t.value ∷ []) (sector.end + 1) digits.end d.value fourth d.is (sym d.comma ∙ c);
            count = refl;
            told = values-told row h;
            place = place-told row h;
          }
