-- What the check of a record gives, and the commands so far of a device.
use Rattle.std.specs.Prelude.{◌≡◌, ℕ, ◌<◌, ◌^◌, List, length, Result, Ok}
use Rattle.geometry.specs.{Geometry.page_bytes_of, declared.geometry.Geometry.Geometry}
use Rattle.trace.specs.{Cutting.fields_of_row, Page.IsData, Page.page_with, Parsing.page_len, Stored.AreKept, Stored.with_digits}
use Rattle.text.specs.Digits.{bytes_of}
use Rattle.trace.specs.{Trace.command_of, declared.commands.Op.Op, declared.cutting.Row.Row, declared.draft.Draft.Draft}
use Rattle.trace.specs.declared.{stored.Head.Head, fault.TraceFaultKind.TraceFaultKind}

-- these digits make the page of an op, if a page has this size, and write no more than fits in it
pub record MakePage (size : ℕ) (op : Op) (digits : List ℕ) (page : Result (List ℕ) TraceFaultKind) : Type 0 where
  pub is : page ≡ Ok (page_with (page_len op size) (bytes_of digits))
  pub fits : IsData (page_len op size) digits

-- a record that was checked is the command of this head and its digits, which write no more than fits in its page
pub record IsChecked (geo : Geometry) (row : Row) (head : Head) : Type 0 where
  pub is : command_of geo (fields_of_row row) ≡ Ok (with_digits head (page_bytes_of geo) row.digits.now)
  pub fits : IsData (page_len head.op (page_bytes_of geo)) row.digits.now
  pub sector : head.sector < 2 ^ 24
  pub few : length row.digits.now < 2 ^ 16

-- the commands so far of a device, over their text
pub record IsDraft (geo : Geometry) (text : List ℕ) (d : Draft) : Type 0 where
  pub kept : AreKept text d
  pub size : d.page_bytes ≡ page_bytes_of geo
