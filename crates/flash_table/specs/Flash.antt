-- What contracts name of a device, of its passes and of notes, and what a pass or a broom that makes no more steps knew last.
use Rattle.flash_rule.specs.declared.view.View.{View}
use Rattle.flash_table.specs.declared.retired.Retired.{Retired}
use Rattle.flash_table.specs.declared.retired_broom.RetiredBroom.{RetiredBroom}
use Rattle.std.specs.Prelude.{◌≡◌, ℕ, ◌+◌, ◌-◌, ◌*◌, ◌<◌, ◌≤◌, true, [], ◌∷◌, ◌++◌, Option, None, Some, replicate}
use Rattle.geometry.specs.Geometry.{numbers_of}
use Rattle.geometry.specs.Limits.{Numbers}
use Rattle.geometry.specs.declared.geometry.Geometry.{Geometry}
use Rattle.flash_rule.specs.declared.facts.Name.TheVariants.{Pass as APass, Broom as ABroom}
use Rattle.flash_rule.specs.declared.facts.Role.TheVariants.{Player, Note as ANote}
use Rattle.flash_rule.specs.declared.facts.Pin.TheVariants.{Stray}
use Rattle.flash_rule.specs.Views.{is_pass, sum_of}
use Rattle.flash_rule.specs.Seats.{newcomer, spare}
use Rattle.flash_table.specs.declared.flash.Flash.{Flash}
use Rattle.flash_table.specs.declared.pass.Pass.{Pass}
use Rattle.flash_table.specs.declared.pass.Note.{Note}
use Rattle.flash_table.specs.declared.pass.OpenBlock.{OpenBlock}
use Rattle.flash_table.specs.declared.broom_seat.BroomBlocks.{BroomBlocks}
use Rattle.flash_table.specs.declared.broom_seat.BroomSeat.{BroomSeat}
use Rattle.flash_table.specs.declared.broom_seat.Reclaiming.TheVariants.{Nothing}
use Rattle.flash_table.specs.Owning.{owned_of}

-- what a pass knew
abbrev pub retired_view : Retired → View
retired_view r = r.seat.me.0

-- what a broom knew
abbrev pub retired_broom_view : RetiredBroom → View
retired_broom_view r = r.seat.me.0

-- the numbers that a device was opened with
abbrev pub geometry_of : Flash → Geometry
geometry_of f = f.geometry

-- the numbers of the device
abbrev pub device : Flash → Numbers
device f = numbers_of f.geometry

-- what a pass knows
abbrev pub view_of : Pass → View
view_of p = p.seat.me.0

-- the block that a pass writes to, if it has one open
abbrev pub opened_of : Pass → Option OpenBlock
opened_of p = p.opened

-- what a broom knows
abbrev pub broom_view : BroomSeat → View
broom_view s = s.seat.me.0

-- the blocks of its own
abbrev pub own_blocks : BroomSeat → BroomBlocks
own_blocks s = s.blocks

-- what a note carries
abbrev pub note_view : Note → View
note_view n = n.seat.me.0

-- A pass of this device
pub record IsPassOf (f : Flash) (p : Pass) : Type 0 where
  pub table : p.seat.table_id ≡ f.table.shared.table_id
  pub role : is_pass (view_of p).role ≡ true
  pub numbers : (view_of p).numbers ≡ device f

-- A broom's seat of this device
pub record IsBroomOf (f : Flash) (s : BroomSeat) : Type 0 where
  pub table : s.seat.table_id ≡ f.table.shared.table_id
  pub role : (i : ℕ) × ((broom_view s).role ≡ Player (ABroom i))
  pub numbers : (broom_view s).numbers ≡ device f

-- A note of this device
pub record IsNoteOf (f : Flash) (n : Note) : Type 0 where
  pub table : n.seat.table_id ≡ f.table.shared.table_id
  pub role : (note_view n).role ≡ ANote

-- what a pass with this number knows at first
abbrev pub first_view : Numbers → ℕ → View
first_view z t = record (newcomer z (Player (APass t))) { known = replicate z.blocks 0; whole = true }

-- the brooms' first spares are the last blocks
abbrev pub spare_of : Numbers → ℕ → ℕ
spare_of z i = z.blocks - z.brooms + i

-- what a broom with this number knows at first: it owns only its spare
abbrev pub first_broom : Numbers → ℕ → View
first_broom z i = record (newcomer z (Player (ABroom i))) { owns = spare (spare_of z i) ∷ []; whole = true }

-- The blocks of a broom that has done nothing yet: only its spare
abbrev pub first_blocks : Numbers → ℕ → BroomBlocks
first_blocks z i = record { destination = None; spare = Some (record { block = spare_of z i; generation = 0; written = 0 }); reclaiming = Nothing }

-- A take records: the block is the pass's, open and with nothing written, in some generation less than the endurance
pub record Taken (v : View) (block : ℕ) (w : View) (opened : Option OpenBlock) : Type 0 where
  pub generation : ℕ
  pub young : generation < v.numbers.endurance
  pub opens : opened ≡ Some (record { block = block; generation = generation; written = 0 })
  pub changed : w ≡ record v { taken = v.taken + 1; owns = owned_of (record { block = block; generation = generation; written = 0 }) ∷ [] }

-- or it was taken already, and the pass has no open block
pub record Denied (v : View) (block : ℕ) (w : View) (opened : Option OpenBlock) : Type 0 where
  pub nothing : opened ≡ None
  pub changed : w ≡ record v { denied = v.denied ++ block ∷ [] }

-- A refused pin records: the pin is stray, and the ages known have grown, within their bound
pub record Strayed (v : View) (block : ℕ) (w : View) : Type 0 where
  pub changed : w ≡ record v { pin = Stray block; known = w.known }
  pub rises : sum_of v.known < sum_of w.known
  pub bounded : sum_of w.known ≤ v.numbers.blocks * (2 * v.numbers.endurance)
