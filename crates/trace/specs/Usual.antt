-- Lines of the usual form: short numbers, no quotes, no fault, and a line feed after the data.
use Rattle.std.specs.Prelude.{◌≡◌, ℕ, ◌+◌, ◌-◌, ◌^◌, ◌<◌, ◌≤◌, true, List, ◌∷◌, length, take, drop, slice_index, Ok, MatchBool}
use Rattle.std.specs.Char.{is_ascii_digit}
use Rattle.geometry.specs.{Geometry.page_bytes_of, declared.geometry.Geometry.Geometry}
use Rattle.trace.specs.{Cutting.IsField, Cutting.begins_with, Page.IsData, Drafting.MakePage, Parsing.page_len, Stored.with_digits, declared.commands.Op.Op}
use Rattle.trace.specs.{Trace.command_of, Trace.number_below, Trace.op_of, Trace.page_of_op, Trace.records_of, declared.fault.TraceFaultKind.TraceFaultKind}
use Rattle.trace.specs.declared.usual.{Number.Number, OpName.OpName, UsualLine.UsualLine}

-- the bytes of a text between two places
abbrev pub part : List ℕ → ℕ → ℕ → List ℕ
part text start end = take (end - start) (drop start text)

-- the place after the line feed at a place, or that place if none is there
pub record IsLineStart (text : List ℕ) (at start : ℕ) : Type 0 where
  pub high : start ≤ length text
  pub is : MatchBool (begins_with 10 (drop at text)) (start ≡ at + 1) (start ≡ at)

-- a field of this value goes from the one place to a comma at the other
pub record EndsAtComma (text : List ℕ) (start end : ℕ) (value : List ℕ) : Type 0 where
  pub field : IsField text start end value
  pub comma : begins_with 44 (drop end text) ≡ true
  pub within : end < length text

-- a number below the bound goes from a place to a comma
pub record IsNumber (text : List ℕ) (start bound : ℕ) (n : Number) : Type 0 where
  pub first : is_ascii_digit (slice_index text start) ≡ true
  pub ends : EndsAtComma text start n.end (part text start n.end)
  pub is : (otherwise : TraceFaultKind) → number_below bound otherwise (part text start n.end) ≡ Ok n.value
  pub below : n.value < bound

-- the name of an op goes from a place to a comma
pub record IsOpName (text : List ℕ) (start : ℕ) (name : OpName) : Type 0 where
  pub value : List ℕ
  pub ends : EndsAtComma text start name.end value
  pub is : op_of value ≡ Ok name.op

-- the data of an op goes from the one place to a line feed at the other, and makes its page
pub record IsUsualData (text : List ℕ) (start : ℕ) (op : Op) (size end : ℕ) : Type 0 where
  pub field : IsField text start end (part text start end)
  pub feed : begins_with 10 (drop end text) ≡ true
  pub made : (worker sector : ℕ) → MakePage size op (part text start end) (page_of_op size op worker sector (part text start end))

-- this line is the first record from a place on, and a command
pub record IsUsual (geo : Geometry) (text : List ℕ) (at : ℕ) (line : UsualLine) : Type 0 where
  pub low : at < line.end
  pub order : line.start ≤ line.end
  pub high : line.end ≤ length text
  pub fields : List (List ℕ)
  pub first : records_of (drop at text) ≡ fields ∷ records_of (drop line.end text)
  pub is : command_of geo fields ≡ Ok (with_digits line.head (page_bytes_of geo) (part text line.start line.end))
  pub fits : IsData (page_len line.head.op (page_bytes_of geo)) (part text line.start line.end)
  pub sector : line.head.sector < 2 ^ 24
  pub few : line.end - line.start < 2 ^ 16
