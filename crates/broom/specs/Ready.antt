-- A broom between two calls, and what one that makes no more steps knew last.
use Rattle.std.specs.Prelude.{◌≡◌, ◌++◌, Option, None, ℕ, ◌<◌, ◌≤◌, ◌==◌, Bool, true, false, List, [], ◌∷◌, Some, length, slice_index_or}
use Rattle.erase_queue.specs.declared.pass.QueuePass.{QueuePass}
use Rattle.flash_rule.specs.declared.view.View.{View}
use Rattle.flash_table.specs.Flash.{retired_broom_view, IsBroomOf, broom_view, own_blocks, geometry_of, device}
use Rattle.broom.specs.declared.folding.Folded.{Folded}
use Rattle.flash_table.specs.Owning.{closed_list}
use Rattle.flash_table.specs.declared.pass.OpenBlock.{OpenBlock}
use Rattle.geometry.specs.Geometry.{blocks_of, pages_of, endurance_of}
use Rattle.geometry.specs.Greedy.{IsClosed}
use Rattle.geometry.specs.Limits.{Numbers}
use Rattle.geometry.specs.Words.{FitsPin, pin_word}
use Rattle.geometry.specs.declared.geometry.Geometry.{Geometry}
use Rattle.geometry.specs.declared.words.Phase.TheVariants.{Closed}
use Rattle.geometry.specs.declared.words.PinWord.{PinWord}
use Rattle.flash_rule.specs.declared.facts.Work.{Work}
use Rattle.flash_rule.specs.Views.{AreOfHosts}
use Rattle.flash_table.specs.declared.flash.Flash.{Flash}
use Rattle.flash_table.specs.declared.broom_seat.BroomBlocks.{BroomBlocks}
use Rattle.flash_table.specs.declared.broom_seat.BroomSeat.{BroomSeat}
use Rattle.flash_table.specs.declared.broom_seat.Reclaiming.TheVariants.{Nothing}
use Rattle.broom.specs.Survey.{Ranks}
use Rattle.broom.specs.declared.broom.Broom.{Broom}

-- what such a broom knew of its device
abbrev pub folded_view : Folded → View
folded_view b = retired_broom_view b.seat

-- its place at the queue of drained blocks
abbrev pub folded_place : Folded → QueuePass
folded_place b = b.place

-- the destination, if there is one, was given up
abbrev pub HasClosed : View → Option OpenBlock → View → Type 0
HasClosed v destination w = w ≡ record v { owns = w.owns; work = None; ceded = v.ceded ++ closed_list destination }

-- a broom's seat at the table
abbrev pub seat_of : Broom → BroomSeat
seat_of b = b.seat

-- what a broom knows
abbrev pub view_of_broom : Broom → View
view_of_broom b = broom_view b.seat

-- the blocks of its own
abbrev pub blocks_of_broom : Broom → BroomBlocks
blocks_of_broom b = own_blocks b.seat

-- for each block whether it is marked
abbrev pub marks_of : Broom → List Bool
marks_of b = b.closed.items

-- no block is marked
abbrev pub HasNoMarks : Broom → Type 0
HasNoMarks b = (k : ℕ) → ¬ (IsClosed (marks_of b) k)

-- An open block is of this device, with fewer pages written than this, in a generation less than the endurance
pub record HasRoom (g : Geometry) (most : ℕ) (o : OpenBlock) : Type 0 where
  pub low : o.block < blocks_of g
  pub room : o.written < most
  pub young : o.generation < endurance_of g

-- The page that was filled last, if the view still has it, is a counted one of the destination
abbrev pub IsFiled : View → BroomBlocks → Type 0
IsFiled v x = (w : Work) → v.work ≡ Some w → (o : OpenBlock) × (x.destination ≡ Some o) × (w.page.block ≡ o.block) × (w.page.page < o.written)

-- The seat is of this device. Its destination, if it has one, has a page left, and nothing is written in its spare. No page is half
-- written, no page is being relocated and no block drained or erased. Each call that was seen is of a host, and no note is out
pub record IsRested (f : Flash) (s : BroomSeat) : Type 0 where
  pub seat : IsBroomOf f s
  pub destination : (o : OpenBlock) → (own_blocks s).destination ≡ Some o → HasRoom (geometry_of f) (pages_of (geometry_of f)) o
  pub spare : (o : OpenBlock) → (own_blocks s).spare ≡ Some o → HasRoom (geometry_of f) 1 o
  pub filed : IsFiled (broom_view s) (own_blocks s)
  pub reclaiming : (own_blocks s).reclaiming ≡ Nothing
  pub source : (broom_view s).source ≡ None
  pub callers : AreOfHosts (broom_view s).numbers (broom_view s).seen
  pub whole : (broom_view s).whole ≡ true
  pub alone : (broom_view s).guest ≡ None

-- The state fits in a word, the generation is less than the endurance, and no more pages are written than a block has
pub record IsInRange (z : Numbers) (p : PinWord) : Type 0 where
  pub fits : FitsPin p
  pub young : p.generation < z.endurance
  pub within : p.written ≤ z.pages

-- a word, unless a later one was loaded
abbrev pub unless_later : Bool → ℕ → Option ℕ → Option ℕ
unless_later here word (Some later) = Some later
unless_later true word None = Some word
unless_later false word None = None

-- the word that was loaded last for this block, if one was
abbrev pub last_of : ℕ → List (ℕ × ℕ) → Option ℕ
last_of b [] = None
last_of b (load ∷ later) = unless_later (load.0 == b) load.1 (last_of b later)

-- The state of this block as the broom loaded it last: it was closed then
pub record IsMarked (z : Numbers) (v : View) (b : ℕ) (p : PinWord) : Type 0 where
  pub range : IsInRange z p
  pub closed : p.phase ≡ Closed
  pub last : last_of b v.loaded ≡ Some (pin_word p)

-- the state that is kept of each marked block is the one loaded last, and it was closed then
abbrev pub AreMarked : Numbers → View → List PinWord → List Bool → Type 0
AreMarked z v states marks = (b : ℕ) (d : PinWord) → IsClosed marks b → IsMarked z v b (slice_index_or states b d)

-- A broom between two calls: its seat is at rest, it has the room for a survey, the state that it keeps of each block that is still marked
-- is the one that it loaded last, and its ranking is one of the marked blocks
pub record IsReady (f : Flash) (b : Broom) : Type 0 where
  pub rested : IsRested f b.seat
  pub states : length b.states.items ≡ blocks_of (geometry_of f)
  pub counts : length b.counts.items ≡ blocks_of (geometry_of f)
  pub closed : length b.closed.items ≡ blocks_of (geometry_of f)
  pub marks : AreMarked (device f) (broom_view b.seat) b.states.items b.closed.items
  pub ranking : Ranks b.counts.items b.closed.items b.ranking

-- a seat was returned unchanged
abbrev pub IsSameSeat : BroomSeat → BroomSeat → Type 0
IsSameSeat s t = (broom_view t ≡ broom_view s) × (own_blocks t ≡ own_blocks s) × ((f : Flash) → IsRested f s → IsRested f t)
