-- The opening of a chip, one question at a time: which question comes next, which answers are true, and what they give.
use Rattle.std.specs.Prelude.{◌≡◌, ◌<◌, ◌≤◌, ◌+◌, ◌-◌, ◌*◌, ℕ, Bool, List, length, Option, None, Some}
use Rattle.geometry.specs.declared.page_addr.PageAddr.{PageAddr}
use Rattle.durable.specs.Calls.{HasNoted}
use Rattle.durable.specs.Collecting.{HasCapacity}
use Rattle.durable.specs.Device.{HasOwnVersions, IsWrittenOn, device_in, device_of, losses_of, next_number_in, next_number_of}
use Rattle.durable.specs.Flash.{Flash}
use Rattle.durable.specs.Losses.{HasNoLoss}
use Rattle.durable.specs.Mounting.{next_in}
use Rattle.durable.specs.Promise.{IsConsistent, IsReadable}
use Rattle.durable.specs.Updates.{Update}
use Rattle.durable.specs.declared.mount.Mount.{Mount}
use Rattle.nand.specs.Nand.{ReadsStamp}
use Rattle.nand.specs.Numbers.{IsOrder, chip_page, good_before, is_marked, numbered}
use Rattle.nand.specs.Opened.{NumbersBelow, device_on, most_used}
use Rattle.nand.specs.declared.flash.Reading.{Reading}
use Rattle.nand.specs.declared.flash.Shape.{Shape}
use Rattle.nand.specs.declared.opening.Opened.{Opened}
use Rattle.nand.specs.declared.opening.Opening.{Opening}
use Rattle.nand.specs.declared.opening.Question.{Question}
use Rattle.nand.specs.declared.opening.Question.TheVariants as question

-- how large the chip is that is opened
abbrev pub shape_of : Opening → Shape
shape_of opening = opening.shape

-- how many sectors its device has
abbrev pub opening_sectors : Opening → ℕ
opening_sectors opening = opening.sectors

-- the question for the stamp of a page whose block has this number
abbrev pub question_at : List ℕ → Option PageAddr → Option Question
question_at numbers None = None
question_at numbers (Some at) = Some (question.Stamp (chip_page numbers at))

-- without a mount the next block is asked for, and then the page that the mount reads next
abbrev pub question_by : List ℕ → Option Mount → Option Question
question_by numbers None = Some (question.IsBad (length numbers))
question_by numbers (Some mount) = question_at numbers (next_in mount)

-- the question that is open, or none after the last
abbrev pub next_question : Opening → Option Question
next_question opening = question_by opening.numbers.items opening.mount

-- the question is for a block or a page of the chip
abbrev pub IsOnChip : Shape → Question → Type 0
IsOnChip shape (question.IsBad block) = block < shape.blocks
IsOnChip shape (question.Stamp at) = (at.block < shape.blocks) × (at.page < shape.pages)

-- whether a block is marked bad is asked
abbrev pub AsksMark : Option Question → Type 0
AsksMark None = ⊥
AsksMark (Some (question.IsBad block)) = Unit {0}
AsksMark (Some (question.Stamp at)) = ⊥

-- a page's stamp is asked for
abbrev pub AsksStamp : Option Question → Type 0
AsksStamp None = ⊥
AsksStamp (Some (question.IsBad block)) = ⊥
AsksStamp (Some (question.Stamp at)) = Unit {0}

-- that is asked, and this is the answer of a chip with these bad blocks
abbrev pub TellsMark : List Bool → Option Question → Bool → Type 0
TellsMark bad None is_bad = ⊥
TellsMark bad (Some (question.IsBad block)) is_bad = is_marked bad block ≡ is_bad
TellsMark bad (Some (question.Stamp at)) is_bad = ⊥

-- that is asked for, and this is an answer of a chip with this flash
abbrev pub TellsStamp : Flash → Option Question → Reading → Type 0
TellsStamp f None reading = ⊥
TellsStamp f (Some (question.IsBad block)) reading = ⊥
TellsStamp f (Some (question.Stamp at)) reading = ReadsStamp (f at.block at.page) reading

-- how many pages come from this one on, in blocks of so many pages
abbrev pub pages_from : ℕ → ℕ → Option PageAddr → ℕ
pages_from blocks pages None = 0
pages_from blocks pages (Some at) = (blocks - at.block) * pages - at.page

-- how many questions are left, where so many blocks have numbers and the mount has come so far
abbrev pub questions_by : Shape → ℕ → Option Mount → ℕ
questions_by shape told None = (shape.blocks - told) + shape.blocks * shape.pages
questions_by shape told (Some mount) = pages_from mount.read_blocks mount.pages (next_in mount)

-- how many questions are left
abbrev pub questions_left : Opening → ℕ
questions_left opening = questions_by opening.shape (length opening.numbers.items) opening.mount

-- the mount is of a chip whose blocks all have numbers, and the stamps that it has noted are the flash's
pub record HasNotedPages (f : Flash) (bad : List Bool) (shape : Shape) (sectors : ℕ) (numbers : List ℕ) (mount : Mount) : Type 0 where
  pub all : length numbers ≡ shape.blocks
  pub device : device_in mount ≡ device_on shape bad sectors
  pub capacity : HasCapacity sectors (good_before bad shape.blocks) shape.pages
  pub number : (n : ℕ) → NumbersBelow f n → next_number_in mount ≤ n
  pub noted : HasNoted (numbered numbers f) mount

-- so is the mount, if it has begun
abbrev pub HasNotedIn : Flash → List Bool → Shape → ℕ → List ℕ → Option Mount → Type 0
HasNotedIn f bad shape sectors numbers None = Unit {0}
HasNotedIn f bad shape sectors numbers (Some mount) = HasNotedPages f bad shape sectors numbers mount

-- all that was told so far is true of a chip with this flash and these bad blocks
pub record HasHeard (f : Flash) (bad : List Bool) (opening : Opening) : Type 0 where
  pub order : IsOrder opening.numbers.items bad (length opening.numbers.items) (most_used opening.shape opening.sectors)
  pub good : opening.good ≡ good_before bad (length opening.numbers.items)
  pub noted : HasNotedIn f bad opening.shape opening.sectors opening.numbers.items opening.mount

-- both have been told the same
pub record IsSameOpening (old new : Opening) : Type 0 where
  pub shape : new.shape ≡ old.shape
  pub sectors : new.sectors ≡ old.sectors
  pub numbers : new.numbers.items ≡ old.numbers.items
  pub good : new.good ≡ old.good
  pub mount : new.mount ≡ old.mount

-- one answer was taken, of the same chip
pub record TakesAnswer (old new : Opening) : Type 0 where
  pub shape : new.shape ≡ old.shape
  pub sectors : new.sectors ≡ old.sectors
  pub left : questions_left new + 1 ≡ questions_left old

-- what a chip with this flash and these bad blocks is opened as
pub record IsOpenedFrom (f : Flash) (bad : List Bool) (shape : Shape) (sectors : ℕ) (opened : Opened) : Type 0 where
  pub order : IsOrder opened.numbers.items bad shape.blocks (most_used shape sectors)
  pub good : opened.good ≡ good_before bad shape.blocks
  pub device : device_of opened.core ≡ device_on shape bad sectors
  pub capacity : HasCapacity sectors (good_before bad shape.blocks) shape.pages
  pub number : (n : ℕ) → NumbersBelow f n → next_number_of opened.core ≤ n
  pub own : HasOwnVersions (device_on shape bad sectors) f
  -- if it can be read, the layer keeps each acknowledged update
  pub consistent : (acked begun : List Update) → IsReadable f (device_on shape bad sectors) acked begun
      → IsConsistent (numbered opened.numbers.items f) opened.core acked begun
  -- it tells a loss where there is one, and only there
  pub tells : IsWrittenOn (device_on shape bad sectors) f → losses_of opened.core ≡ 0 → HasNoLoss (numbered opened.numbers.items f) sectors
  pub quiet : (acked begun : List Update) → IsReadable f (device_on shape bad sectors) acked begun
      → HasNoLoss (numbered opened.numbers.items f) sectors → losses_of opened.core ≡ 0
