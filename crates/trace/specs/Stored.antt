-- How the commands of a trace are kept: each with the place of its digits, in the text or after its end among the odd ones; and the lines that the laws
-- of this name.
use Rattle.std.specs.Prelude.{◌≡◌, ◌⊎◌, ℕ, ◌+◌, ◌*◌, ◌^◌, ◌<◌, ◌≤◌, List, [], ◌∷◌, All, ◌++◌, length, map, take, drop}
use Rattle.trace.specs.declared.commands.Command.{Command}
use Rattle.trace.specs.declared.draft.Draft.{Draft}
use Rattle.trace.specs.Page.{IsData, page_with}
use Rattle.trace.specs.Parsing.{page_len}
use Rattle.text.specs.Digits.{bytes_of}
use Rattle.trace.specs.declared.stored.AllStored.{AllStored}
use Rattle.trace.specs.declared.stored.Brief.{Brief}
use Rattle.trace.specs.declared.stored.Head.{Head}
use Rattle.trace.specs.declared.stored.Lent.{Lent}
use Rattle.trace.specs.declared.stored.Near.{Near}
use Rattle.trace.specs.declared.stored.Stored.{Stored}
use Rattle.trace.specs.declared.commands.Op.TheVariants as op

-- a command whose place has four bytes, with a place of eight
abbrev pub widened : Near → Stored
widened n = record { start = n.start; brief = n.brief }

-- a command that is lent
abbrev pub lent_as : Lent → Stored
lent_as l = record { start = l.start; brief = l.brief.now }

-- all that are kept, in order: first those whose place has four bytes
abbrev pub stored_in : AllStored → List Stored
stored_in all = map widened all.near.items ++ all.far.items

-- the command of a line that has these digits, if a page has this size
abbrev pub with_digits : Head → ℕ → List ℕ → Command
with_digits head size digits = record { worker = head.worker; op = head.op; sector = head.sector; page = page_with (page_len head.op size) (bytes_of digits) }

-- what a line says apart from its digits
abbrev pub head_of : Brief → Head
head_of b = record { worker = b.worker; op = b.op; sector = b.sector_low + 65536 * b.sector_high }

-- its digits
abbrev pub digits_at : List ℕ → List ℕ → Stored → List ℕ
digits_at text odd s = take s.brief.digits (drop s.start (text ++ odd))

-- the command that is kept in this way
abbrev pub command_at : List ℕ → List ℕ → ℕ → Stored → Command
command_at text odd size s = with_digits (head_of s.brief) size (digits_at text odd s)

-- its digits are in the text or all after it, and write no more than fits in its page
pub record IsKept (text odd : List ℕ) (size : ℕ) (s : Stored) : Type 0 where
  pub within : s.start + s.brief.digits ≤ length (text ++ odd)
  pub whole : (s.start + s.brief.digits ≤ length text) ⊎ (length text ≤ s.start)
  pub fits : IsData (page_len s.brief.op size) (digits_at text odd s)

-- all are kept in this way, and are no more than one list may have
pub record IsWhole (text odd : List ℕ) (size : ℕ) (all : List Stored) : Type 0 where
  pub kept : All (IsKept text odd size) all
  pub few : length all < 2 ^ 63

-- the commands so far, over their text
abbrev pub drafted : List ℕ → Draft → List Command
drafted text d = map (command_at text d.odd.items d.page_bytes) (stored_in d.stored)

-- one command more, of a line with these digits
abbrev pub Pushes : List ℕ → Draft → Draft → Head → List ℕ → Type 0
Pushes text old new head digits = drafted text new ≡ drafted text old ++ with_digits head old.page_bytes digits ∷ []

-- all are kept in this way
abbrev pub AreKept : List ℕ → Draft → Type 0
AreKept text d = All (IsKept text d.odd.items d.page_bytes) (stored_in d.stored)

-- a write of worker 3 to sector 65541, with two digits
abbrev pub line_of_write : Brief
line_of_write = record { digits = 2; worker = 3; sector_low = 5; sector_high = 1; op = op.Write }

-- a read of worker 4 of sector 6
abbrev pub line_of_read : Brief
line_of_read = record { digits = 0; worker = 4; sector_low = 6; sector_high = 0; op = op.Read }

-- a line whose digits begin at this place
abbrev pub placed : Brief → ℕ → Stored
placed brief start = record { start = start; brief = brief }
