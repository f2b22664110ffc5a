-- What contracts name of a volume and of a broom at its volume, and what is kept of a broom's seat when the broom is made.
use Rattle.erase_queue.specs.declared.queue.EraseQueue.{EraseQueue}
use Rattle.flash_table.specs.declared.flash.Flash.{Flash}
use Rattle.volume.specs.declared.volume.Volume.{Volume}
use Rattle.std.specs.Prelude.{◌≡◌, None, ℕ}
use Rattle.std.proofs.Props.{props}
use Rattle.erase_queue.specs.Queue.{IsNewPass}
use Rattle.geometry.specs.Geometry.{blocks_of, hosts_of, page_bytes_of, sectors_of, words_of}
use Rattle.flash_table.specs.Flash.{device, geometry_of, first_blocks, first_broom, broom_view, own_blocks}
use Rattle.broom.specs.declared.broom.Broom.{Broom}
use Rattle.broom.specs.Handing.{IsQueued, place_of, aside_of}
use Rattle.broom.specs.Once.{IsReady-prop, IsQueued-prop}
use Rattle.broom.specs.Ready.{HasNoMarks, IsReady, blocks_of_broom, view_of_broom}
use Rattle.flash_rule.specs.declared.view.View.{View}
use Rattle.flash_table.specs.declared.broom_seat.BroomBlocks.{BroomBlocks}
use Rattle.flash_table.specs.declared.broom_seat.BroomSeat.{BroomSeat}

-- its device
abbrev pub flash_of : Volume → Flash
flash_of v = v.flash

-- the queue of its drained blocks
abbrev pub queue_of : Volume → EraseQueue
queue_of v = v.queue

-- how many hosts it was opened for
abbrev pub hosts : Volume → ℕ
hosts v = hosts_of (geometry_of (flash_of v))

-- how many sectors it has
abbrev pub sectors : Volume → ℕ
sectors v = sectors_of (geometry_of (flash_of v))

-- how many blocks it has
abbrev pub blocks : Volume → ℕ
blocks v = blocks_of (geometry_of (flash_of v))

-- how many words a page has
abbrev pub words : Volume → ℕ
words v = words_of (geometry_of (flash_of v))

-- how many bytes a page has
abbrev pub page_bytes : Volume → ℕ
page_bytes v = page_bytes_of (geometry_of (flash_of v))

-- A broom between two calls: it is ready at the volume's device, and its place is one at the volume's queue
pub record IsBroomReady (v : Volume) (b : Broom) : Type 0 where
  pub ready : IsReady (flash_of v) b
  pub queued : IsQueued (queue_of v) b

-- A broom that was just made: it is ready, has seen, done and counted nothing at its queue, has nothing set aside, and has made no survey:
-- no block is marked
pub record IsFresh (f : Flash) (q : EraseQueue) (b : Broom) : Type 0 where
  pub ready : IsReady f b
  pub place : IsNewPass q (place_of b)
  pub aside : aside_of b ≡ None
  pub unmarked : HasNoMarks b

-- a broom with this number of an unused device
abbrev pub IsUnused : Flash → ℕ → Broom → Type 0
IsUnused f i b = (view_of_broom b ≡ first_broom (device f) i) × (blocks_of_broom b ≡ first_blocks (device f) i)

-- that a broom is ready is a fact with at most one proof, so that a struct can keep it together with its broom
pub IsBroomReady-prop : (v : Volume) (b : Broom) → IsProp (IsBroomReady v b)
IsBroomReady-prop v b = hlevel (props, IsReady-prop, IsQueued-prop)

-- what a seat knows, with the blocks of its own
abbrev pub known_by_seat : BroomSeat → View × BroomBlocks
known_by_seat s = (broom_view s, own_blocks s)

-- what a broom knows, with the blocks of its own
abbrev pub known_by_broom : Broom → View × BroomBlocks
known_by_broom b = (view_of_broom b, blocks_of_broom b)
