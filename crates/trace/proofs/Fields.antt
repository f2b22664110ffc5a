-- How the records of a text are read one by one.
use Rattle.std.proofs.Common.{Bor, ◌≡◌, ℕ, zero, suc, ◌+◌, ◌<◌, Bool, true, false, List, [], ◌∷◌, ◌++◌, length, Option, Some, None, Result, Ok, Err, refl, ap}
use Rattle.std.proofs.Common.{subst, ◌∙◌, add-one, arith, inl}
use Rattle.std.specs.Prelude.{◌==◌, ◌||◌, IfOk, OnOk, IsSome, MatchBool, option_map, slice_index_or, if◌then◌else◌}
use Rattle.csv.specs.Machine.{Read, ends_at_end, field_after, fields_after, in_field, is_end, next_record, start_field, start_record, step}
use Rattle.csv.specs.Reading.{NextIs, pending_of, ReadRecord, ReadsNext, Ready, default_config, reader_trim, records_from, records_next, took_first}
use Rattle.csv.specs.{Records.field_at, declared.parser.Action.Action, declared.parser.State.State, declared.reader.Reader.Reader}
use Rattle.csv.specs.declared.parser.State.TheVariants as st
use Rattle.csv.specs.declared.reader.Trim.TheVariants as trim
use Rattle.trace.specs.Cutting.{IsReading, TakesNext, records_after, unread}

-- a field that is there
pub field_at-some : (fields : List (List ℕ)) (i : ℕ) → i < length fields → IsSome (field_at fields i)
unfolding field_at
field_at-some [] i h = absurd (omega arith)
field_at-some (f ∷ fs) zero h = refl
field_at-some (f ∷ fs) (suc i) h = field_at-some fs i (omega arith)

-- a field, as an index gives it
pub field_at-get : (fields : List (List ℕ)) (i : ℕ) (x : List ℕ) → field_at fields i ≡ Some x → x ≡ slice_index_or fields i []
unfolding field_at
field_at-get [] i x h = cc h
field_at-get (f ∷ fs) zero x h = cc
field_at-get (f ∷ fs) (suc i) x h = field_at-get fs i x h

-- a value, from what a function makes of it
pub some-option_map : {A B : Type 0} (f : A → B) (o : Option A) (q : Option B) → option_map f o ≡ q → IsSome q → IsSome o
some-option_map f (Some x) q e h = refl
some-option_map f None q e h = cc (rw (← e) at h)

-- ---- a record takes at least a byte

-- what holds of both branches
pub both : {A : Type 0} (P : A → Type 0) (b : Bool) (x y : A) → P x → P y → P (if b then x else y)
both P true x y p q = p
both P false x y p q = q

-- a step that ends a record leaves the machine between two records
abbrev EndsBetween : State × Action → Type 0
EndsBetween q = is_end q.1 ≡ true → ends_at_end q.0 ≡ false

ends-in_field : (c : ℕ) → EndsBetween (in_field default_config c)
ends-in_field c =
    both EndsBetween (c == 44) _ _ (λ e. cc e)
    (both EndsBetween ((c == 13) || (c == 10)) _ _ (λ _. both (λ s. ends_at_end s ≡ false) (c == 13) _ _ refl refl) (λ e. cc e))

ends-start_field : (c : ℕ) → EndsBetween (start_field default_config c)
ends-start_field c = both EndsBetween (c == 34) _ _ (λ e. cc e) (ends-in_field c)

ends-start_record : (c : ℕ) → EndsBetween (start_record default_config c)
ends-start_record c = both EndsBetween ((c == 13) || (c == 10)) _ _ (λ e. cc e) (ends-start_field c)

ends-between : (s : State) (c : ℕ) → EndsBetween (step default_config s c)
ends-between st.StartRecord c = ends-start_record c
ends-between st.StartField c = ends-start_field c
ends-between st.InField c = ends-in_field c
ends-between st.InQuoted c = both EndsBetween (c == 34) _ _ (λ e. cc e) (λ e. cc e)
ends-between st.InEscape c = λ e. cc e
ends-between st.AfterQuote c = both EndsBetween (c == 34) _ _ (λ e. cc e) (ends-in_field c)
ends-between st.InComment c = both EndsBetween (c == 10) _ _ (λ e. cc e) (λ e. cc e)
ends-between st.AfterCr c = both EndsBetween (c == 10) _ _ (λ e. cc e) (ends-start_record c)

-- a record leaves the machine between two records, and no more bytes than there were
pub record Leaves (p : Read) (count : ℕ) : Type 0 where
  pub between : ends_at_end p.1 ≡ false
  pub bytes : length p.2 < count

-- what a read of some record left is what a read of this one did
same_read : (q p : Read) (count : ℕ) → Some q ≡ Some p → Leaves q count → Leaves p count
same_read q p count e h =
    let same : q ≡ p = cc in
    subst (λ r. Leaves r count) same h

leaves : (s : State) (fields : List (List ℕ)) (field bytes : List ℕ) (p : Read) → next_record default_config s fields field bytes ≡ Some p
    → Leaves p (length bytes + 1)
unfolding next_record
leaves s fields field [] p h = by (ends_at_end s) h
  where
    by : (b : Bool) → (if b then Some (fields ++ (field ∷ []), st.StartRecord, []) else None) ≡ Some p → Leaves p 1
    by true q = same_read _ p 1 q (record { between = refl; bytes = omega arith })
    by false q = cc q
leaves s fields field (c ∷ rest) p h = by (is_end (step default_config s c).1) refl h (leaves (step default_config s c).0 _ _ rest p)
  where
    by : (b : Bool) → is_end (step default_config s c).1 ≡ b
        → (if b then Some (fields_after (step default_config s c).1 fields field, (step default_config s c).0, rest)
        else next_record default_config (step default_config s c).0 (fields_after (step default_config s c).1 fields field)
        (field_after (step default_config s c).1 c field) rest) ≡ Some p
        → (next_record default_config (step default_config s c).0 (fields_after (step default_config s c).1 fields field)
        (field_after (step default_config s c).1 c field) rest ≡ Some p → Leaves p (length rest + 1))
        → Leaves p (length (c ∷ rest) + 1)
    by true e q more = same_read _ p _ q (record { between = ends-between s c e; bytes = omega arith })
    by false e q more = let m = more q in record { between = m.between; bytes = omega arith }

-- a record that is read between two others takes a byte or more
pub leaves_less : (s : State) (bytes : List ℕ) (p : Read) → ends_at_end s ≡ false → next_record default_config s [] [] bytes ≡ Some p → Leaves p (length bytes)
unfolding next_record
leaves_less s [] p e h = absurd (cc (rw e at h))
leaves_less s (c ∷ rest) p e h = by (is_end (step default_config s c).1) refl h (leaves (step default_config s c).0 _ _ rest p)
  where
    by : (b : Bool) → is_end (step default_config s c).1 ≡ b
        → (if b then Some (fields_after (step default_config s c).1 [] [], (step default_config s c).0, rest)
        else next_record default_config (step default_config s c).0 (fields_after (step default_config s c).1 [] [])
        (field_after (step default_config s c).1 c []) rest) ≡ Some p
        → (next_record default_config (step default_config s c).0 (fields_after (step default_config s c).1 [] [])
        (field_after (step default_config s c).1 c []) rest ≡ Some p → Leaves p (length rest + 1))
        → Leaves p (length (c ∷ rest))
    by true d q more = same_read _ p _ q (record { between = ends-between s c d; bytes = omega arith })
    by false d q more = let m = more q in record { between = m.between; bytes = omega arith }

-- ---- the records of a text, one after the other

-- more rounds than bytes find the same records
pub rounds : (n m : ℕ) (s : State) (bytes : List ℕ) → ends_at_end s ≡ false → length bytes < n → length bytes < m
    → records_from default_config n s bytes ≡ records_from default_config m s bytes
unfolding records_from
rounds zero m s bytes e h k = absurd (omega arith)
rounds (suc n) zero s bytes e h k = absurd (omega arith)
rounds (suc n) (suc m) s bytes e h k = by (next_record default_config s [] [] bytes) refl (rounds n m)
  where
    by : (o : Option Read) → next_record default_config s [] [] bytes ≡ o
        → ((t : State) (rest : List ℕ) → ends_at_end t ≡ false → length rest < n → length rest < m
        → records_from default_config n t rest ≡ records_from default_config m t rest)
        → records_next (records_from default_config n) (next_record default_config s [] [] bytes) ≡ records_next (records_from default_config m)
        (next_record default_config s [] [] bytes)
    by None q more = rw q refl
    by (Some p) q more = let l = leaves_less s bytes p e q in rw q (ap (λ v. p.0 ∷ v) (more p.1 p.2 l.between (omega arith) (omega arith)))

-- no record is left
pub after-none : (s : State) (bytes : List ℕ) → next_record default_config s [] [] bytes ≡ None → records_after s bytes ≡ []
unfolding records_from
after-none s bytes q = rw (add-one, q) refl

-- the first of those that are left
pub after-some : (s : State) (bytes : List ℕ) (p : Read) → ends_at_end s ≡ false → next_record default_config s [] [] bytes ≡ Some p
    → records_after s bytes ≡ p.0 ∷ records_after p.1 p.2
unfolding records_from
after-some s bytes p e q =
    let l = leaves_less s bytes p e q in
    rw (add-one, q) (ap (λ v. p.0 ∷ v) (rounds (length bytes) (length p.2 + 1) p.1 p.2 e' (omega arith) (omega arith)))
  where
    e' : ends_at_end p.1 ≡ false
    e' = (leaves_less s bytes p e q).between

-- ---- the steps of a reader

-- a reader over a slice
abbrev Rows : Type 0
Rows = Reader (Bor (List ℕ))

-- the bytes that a slice has
abbrev held : Bor (List ℕ) → Option (List ℕ)
held s = Some s.now

-- what a read of a record does, by the record that is next
takes : (s : State) (bytes : List ℕ) (rest : Option (List ℕ)) (found : Bool) (fields : List (List ℕ)) (t : State) → ends_at_end s ≡ false
    → ReadsNext default_config s (Some bytes) rest found fields t
    → (left : List ℕ) × (rest ≡ Some left) × (found ≡ true → ends_at_end t ≡ false)
    × MatchBool found (records_after s bytes ≡ fields ∷ records_after t left) (records_after s bytes ≡ [])
takes s bytes None found fields t e h = absurd h
takes s bytes (Some left) found fields t e h = by (next_record default_config s [] [] bytes) refl h
  where
    by : (o : Option Read) → next_record default_config s [] [] bytes ≡ o → NextIs o found fields t left
        → (some : List ℕ) × (Some left ≡ Some some) × (found ≡ true → ends_at_end t ≡ false)
        × MatchBool found (records_after s bytes ≡ fields ∷ records_after t some) (records_after s bytes ≡ [])
    by None q n = (left, refl, (λ f. cc), rw n (after-none s bytes q))
    by (Some p) q n =
        let between : ends_at_end t ≡ false = rw n.2 (leaves_less s bytes p e q).between in
        (left, refl, (λ _. between), rw (n.0, n.1, n.2, n.3) (after-some s bytes p e q))

-- the bytes that are known, by name
known_bytes : (o : Option (List ℕ)) → IsSome o → (bytes : List ℕ) × (o ≡ Some bytes)
known_bytes (Some bytes) h = (bytes, refl)
known_bytes None h = cc h

-- a read of a record takes the first that is left
takes_one : (old new : Rows) (fields : List (List ℕ)) (found : Bool) → IsReading old → took_first new ≡ true → ReadRecord held old new found fields
    → TakesNext old new fields found
takes_one old new fields found h first r =
    let (bytes, here) = known_bytes (unread old) h.known in
    let (left, rest, between, taken) = takes old.state bytes (pending_of (held new.rdr) new) found fields new.state h.between (rw (h.config, here) at r.0) in
    let there : unread new ≡ Some left = rw r.1 rest in
    record {
      reading = λ f. record { plain = r.3 ∙ h.plain; ready = inl first; config = r.2 ∙ h.config; between = between f; known = rw there refl };
      takes = rw (here, there) taken;
    }

pub takes_next : {E : Type 0} (r : Result Bool E) (old new : Rows) (fields : List (List ℕ)) → IsReading old → OnOk r (took_first new ≡ true)
    → IfOk r (λ found. reader_trim old ≡ trim.None → Ready old → ReadRecord held old new found fields) → IfOk r (TakesNext old new fields)
takes_next (Ok found) old new fields h first r = takes_one old new fields found h first (r h.plain h.ready)
takes_next (Err e) old new fields h first r = tt
