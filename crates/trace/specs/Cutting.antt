-- Where the records of a text are, how csv's machine reads from one place of it to another, and a csv reader that has read some of a text, seen as the
-- records that it has left.
use Rattle.std.specs.Prelude.{◌≡◌, ℕ, ◌+◌, Bool, true, false, List, [], ◌∷◌, length, Option, Some, unwrap_or, IsSome, MatchBool, ◌≢◌, ◌≤◌, ◌<◌, ◌-◌, ◌==◌, not}
use Rattle.std.specs.Prelude.{IfSome, take, drop}
use Rattle.std.specs.Borrow.{Bor}
use Rattle.csv.specs.Machine.{ends_at_end, Read, Runs, next_record}
use Rattle.csv.specs.declared.parser.State.TheVariants as st
use Rattle.csv.specs.declared.parser.State.{State}
use Rattle.csv.specs.declared.reader.Reader.{Reader}
use Rattle.csv.specs.Reading.{Ready, default_config, reader_config, reader_state, reader_trim, records_from, source_of, strip_bom}
use Rattle.csv.specs.declared.reader.Trim.TheVariants as trim
use Rattle.trace.specs.Trace.{records_of}
use Rattle.trace.specs.declared.cutting.Cut.TheVariants as cut
use Rattle.trace.specs.declared.cutting.Cut.{Cut}
use Rattle.trace.specs.declared.cutting.Field.{Field}
use Rattle.trace.specs.declared.cutting.Row.{Row}
use Rattle.text.specs.Lanes.{is_field_end, is_line_end}

-- the bytes that a reader over a slice has left
abbrev pub unread : Reader (Bor (List ℕ)) → Option (List ℕ)
unread rows = source_of (λ s. Some s.now) rows

-- the records of these bytes, for a reader in this state
abbrev pub records_after : State → List ℕ → List (List (List ℕ))
records_after state bytes = records_from default_config (length bytes + 1) state bytes

-- the records that a reader has left
abbrev pub records_left : Reader (Bor (List ℕ)) → List (List (List ℕ))
records_left rows = records_after (reader_state rows) (unwrap_or (unread rows) [])

-- a reader with csv's defaults and no header row is between two records
pub record IsReading (rows : Reader (Bor (List ℕ))) : Type 0 where
  pub plain : reader_trim rows ≡ trim.None
  pub ready : Ready rows
  pub config : reader_config rows ≡ default_config
  pub between : ends_at_end (reader_state rows) ≡ false
  pub known : IsSome (unread rows)

-- the next record, if one was found, is the first of those that were left, and the reader goes on after it
pub record TakesNext (old new : Reader (Bor (List ℕ))) (fields : List (List ℕ)) (found : Bool) : Type 0 where
  pub reading : found ≡ true → IsReading new
  pub takes : MatchBool found (records_left old ≡ fields ∷ records_left new) (records_left old ≡ [])

-- ---- bytes

-- whether a text begins with this byte
abbrev pub begins_with : ℕ → List ℕ → Bool
begins_with byte [] = false
begins_with byte (first ∷ rest) = first == byte

-- whether a field ends before this text: it is over, or begins with a comma or a line end
abbrev pub ends_field : List ℕ → Bool
ends_field [] = true
ends_field (byte ∷ rest) = is_field_end byte

-- whether this text doesn't begin with a line end
abbrev pub ends_no_line : List ℕ → Bool
ends_no_line [] = true
ends_no_line (byte ∷ rest) = not (is_line_end byte)

-- ---- fields

-- the record that is read from here on, in this state, after these fields and these bytes of a field
abbrev pub read_from : State → List (List ℕ) → List ℕ → List ℕ → Option Read
read_from s fields field bytes = next_record default_config s fields field bytes

-- between these places each byte only joins the current field
pub record Joins (s : State) (text : List ℕ) (start end : ℕ) : Type 0 where
  pub low : start ≤ end
  pub high : end ≤ length text
  pub runs : Runs default_config s (take (end - start) (drop start text))

-- a field without open quotes continues from the one place to the other, where it ends
pub record EndsPlain (text : List ℕ) (start end : ℕ) : Type 0 where
  pub joins : Joins st.InField text start end
  pub stops : ends_field (drop end text) ≡ true

-- a field with open quotes continues from the one place to the next quote, or to the end of the text
pub record EndsQuoted (text : List ℕ) (start end : ℕ) : Type 0 where
  pub joins : Joins st.InQuoted text start end
  pub stops : end ≢ length text → begins_with 34 (drop end text) ≡ true

-- a field of this value reaches from the one place to the other, where it ends
pub record IsField (text : List ℕ) (start end : ℕ) (value : List ℕ) : Type 0 where
  pub low : start ≤ end
  pub high : end ≤ length text
  pub reads : (fields : List (List ℕ)) → read_from st.StartField fields [] (drop start text) ≡ read_from st.InField fields value (drop end text)
  pub stops : ends_field (drop end text) ≡ true

-- some field is there
abbrev pub EndsField : List ℕ → ℕ → ℕ → Type 0
EndsField text start end = (value : List ℕ) × IsField text start end value

-- these bytes are in a text right before a place
pub record StandsBefore (text : List ℕ) (end : ℕ) (part : List ℕ) : Type 0 where
  pub low : length part ≤ end
  pub is : part ≡ take (length part) (drop (end - length part) text)

-- the field that was cut is the one that is there, with its value, if that was recorded
pub record CutsField (text : List ℕ) (start : ℕ) (f : Field) : Type 0 where
  pub value : List ℕ
  pub is : IsField text start f.end value
  pub told : IfSome f.value (λ bytes. bytes.now ≡ value)
  pub place : IfSome f.value (λ bytes. StandsBefore text f.end bytes.now)
  pub comma : f.comma ≡ begins_with 44 (drop f.end text)

-- ---- records

-- the records of a text from a place between two records, or from its end
abbrev pub next_records : List ℕ → List (List (List ℕ))
next_records bytes = records_after st.StartRecord bytes

-- after a byte order mark, if there is one
pub record IsMarkEnd (text : List ℕ) (at end : ℕ) : Type 0 where
  pub low : at ≤ end
  pub high : end ≤ length text
  pub strips : strip_bom (drop at text) ≡ drop end text

-- after the line ends at a place the same records are there
pub record StartsRecord (text : List ℕ) (from start : ℕ) : Type 0 where
  pub low : from ≤ start
  pub high : start ≤ length text
  pub same : next_records (drop from text) ≡ next_records (drop start text)
  pub stops : ends_no_line (drop start text) ≡ true

-- the fields of a record
abbrev pub fields_of_row : Row → List (List ℕ)
fields_of_row row = row.worker.now ∷ row.op.now ∷ row.sector.now ∷ row.digits.now ∷ []

-- a record of the values of its fields
pub record HasValues (row : Row) (first second third fourth : Field) : Type 0 where
  pub worker : first.value ≡ Some row.worker
  pub op : second.value ≡ Some row.op
  pub sector : third.value ≡ Some row.sector
  pub digits : fourth.value ≡ Some row.digits

-- a record, if it was recorded, has the values of its fields
abbrev pub HasRecordedValues : Option Row → Field → Field → Field → Field → Type 0
HasRecordedValues row first second third fourth = IfSome row (λ r. HasValues r first second third fourth)

-- the first record from a place on has other than four fields
pub record HasOtherFields (text : List ℕ) (at : ℕ) : Type 0 where
  pub fields : List (List ℕ)
  pub others : List (List (List ℕ))
  pub first : records_of (drop at text) ≡ fields ∷ others
  pub count : length fields ≢ 4

-- the first record from a place on has four fields, which are these, if they were recorded, and ends at this place, and so do its digits
pub record IsRecord (text : List ℕ) (at end : ℕ) (row : Option Row) : Type 0 where
  pub low : at < end
  pub high : end ≤ length text
  pub fields : List (List ℕ)
  pub first : records_of (drop at text) ≡ fields ∷ records_of (drop end text)
  pub count : length fields ≡ 4
  pub told : IfSome row (λ r. fields ≡ fields_of_row r)
  pub place : IfSome row (λ r. StandsBefore text end r.digits.now)

-- what comes next from a place on
abbrev pub IsCut : List ℕ → ℕ → Cut → Type 0
IsCut text at cut.End = records_of (drop at text) ≡ []
IsCut text at cut.Fields = HasOtherFields text at
IsCut text at (cut.Record end row) = IsRecord text at end row
