-- How much of a text reached a writer, and the lines that wait to be written. A text is known by what it has to be for the bytes that were read.
use Rattle.std.specs.Prelude.{ℕ, List, take, ◌≡◌, ◌++◌, Option}
use Rattle.answers.specs.declared.lines.Lines.{Lines}
use Rattle.std.specs.Io.KnownBytes.{Appends}
use Rattle.geometry.specs.History.{Begins}

-- the text that waits
abbrev pub waiting_of : Lines → List ℕ
waiting_of lines = take lines.used lines.buffer.items

-- how many digits a page has for which there is room
abbrev pub page_digits_of : Lines → ℕ
page_digits_of lines = lines.digits

-- the known bytes of a writer grew by a beginning of this text
pub record AppendsBeginning (old new : Option (List ℕ)) (whole : List ℕ) : Type 0 where
  pub sent : List ℕ
  pub out : Appends old new sent
  pub beginning : Begins sent whole

-- a text that is right for these bytes was appended
pub record AppendsText (IsTextOf : List ℕ → List ℕ → Type 0) (bytes : List ℕ) (old new : Option (List ℕ)) : Type 0 where
  pub text : List ℕ
  pub is_text : IsTextOf bytes text
  pub out : Appends old new text

-- a beginning of a text that is right for these bytes was appended
pub record AppendsPart (IsTextOf : List ℕ → List ℕ → Type 0) (bytes : List ℕ) (old new : Option (List ℕ)) : Type 0 where
  pub text : List ℕ
  pub is_text : IsTextOf bytes text
  pub out : AppendsBeginning old new text

-- a text in pieces: what was written, followed by what waits, is the text so far
pub record IsUnderWay (old new : Option (List ℕ)) (waiting text : List ℕ) : Type 0 where
  pub sent : List ℕ
  pub out : Appends old new sent
  pub whole : sent ++ waiting ≡ text
