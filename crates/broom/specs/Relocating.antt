-- How a broom drains its victim step by step, and what each part of this records.
use Rattle.std.specs.Prelude.{◌≡◌, ℕ, ◌+◌, ◌-◌, ◌<◌, ◌≤◌, ◌⊎◌, false, List, [], ◌∷◌, ◌++◌, Option, None, Some, length, MatchOption}
use Rattle.geometry.specs.Geometry.{blocks_of, pages_of, endurance_of}
use Rattle.geometry.specs.History.{Begins}
use Rattle.geometry.specs.Words.{map_word}
use Rattle.geometry.specs.declared.words.MapWord.{MapWord}
use Rattle.flash_rule.specs.declared.facts.Source.{Source}
use Rattle.flash_rule.specs.declared.view.View.{View}
use Rattle.flash_rule.specs.Views.{AreOfHosts}
use Rattle.flash_rule.specs.Rule.{IsValue}
use Rattle.flash_rule.specs.Plays.{next_page}
use Rattle.flash_rule.specs.BroomPlays.{CanMove}
use Rattle.flash_table.specs.declared.flash.Flash.{Flash}
use Rattle.flash_table.specs.declared.pass.OpenBlock.{OpenBlock}
use Rattle.flash_table.specs.declared.broom_seat.BroomBlocks.{BroomBlocks}
use Rattle.flash_table.specs.declared.broom_seat.BroomSeat.{BroomSeat}
use Rattle.flash_table.specs.declared.broom_seat.ReclaimedBlock.{ReclaimedBlock}
use Rattle.flash_table.specs.declared.broom_seat.Reclaiming.TheVariants.{Draining}
use Rattle.flash_table.specs.Owning.{owned_of}
use Rattle.flash_table.specs.Flash.{IsBroomOf, broom_view, own_blocks, geometry_of}
use Rattle.broom.specs.Emptying.{Programmed, page_at, pages_to_fill, filled_by, looks_in, is_live, count_if}
use Rattle.broom.specs.Ready.{HasRoom, IsFiled}

-- The broom drains this victim. Its destination has fewer pages written than this, and nothing is written in its spare
pub record IsSweeping (f : Flash) (most : ℕ) (s : BroomSeat) (x : ReclaimedBlock) : Type 0 where
  pub seat : IsBroomOf f s
  pub draining : (own_blocks s).reclaiming ≡ Draining x
  pub low : x.block < blocks_of (geometry_of f)
  pub short : x.written ≤ pages_of (geometry_of f)
  pub young : x.generation < endurance_of (geometry_of f)
  pub destination : (o : OpenBlock) → (own_blocks s).destination ≡ Some o → HasRoom (geometry_of f) most o
  pub spare : (o : OpenBlock) → (own_blocks s).spare ≡ Some o → HasRoom (geometry_of f) 1 o
  pub filed : IsFiled (broom_view s) (own_blocks s)
  pub callers : AreOfHosts (broom_view s).numbers (broom_view s).seen

-- a broom that sweeps this victim, with a page left in its destination, if it has one
abbrev pub Sweeps : Flash → BroomSeat → ReclaimedBlock → Type 0
Sweeps f s x = IsSweeping f (pages_of (geometry_of f)) s x

-- the pages that are left in a block, if there is one
abbrev pub room_in : ℕ → Option OpenBlock → ℕ
room_in pages None = 0
room_in pages (Some o) = pages - o.written

-- the pages that a broom can still copy to
abbrev pub room_left : ℕ → BroomBlocks → ℕ
room_left pages x = room_in pages x.destination + room_in pages x.spare

-- The broom went on with its victim: this many pages were moved, and what was programmed, seen and looked at was added at the ends
pub record Relocated (v : View) (copied : ℕ) (w : View) : Type 0 where
  pub changed : w ≡ record v {
    seen = w.seen;
    named = w.named;
    owns = w.owns;
    work = w.work;
    programs = w.programs;
    cleared = w.cleared;
    source = w.source;
    moves = v.moves + copied;
    ceded = w.ceded;
  }
  pub later : Begins v.seen w.seen
  pub named : Begins v.named w.named
  pub programmed : Begins v.programs w.programs

-- The next page of the victim was found dead: by its stamp, or by a look at its sector
pub record FoundDead (v : View) (page : MapWord) (w : View) : Type 0 where
  pub went : Relocated v 0 w
  pub cleared : w.cleared ≡ v.cleared + 1
  pub source : w.source ≡ None
  pub programs : w.programs ≡ v.programs
  pub work : w.work ≡ v.work
  pub ceded : w.ceded ≡ v.ceded
  pub find : Option (ℕ × ℕ)
  pub named : w.named ≡ v.named ++ looks_in (find ∷ [])
  pub dead : is_live page find ≡ false

-- Or it was found live, by a look at this sector, and is now the source
pub record FoundLive (v : View) (page : MapWord) (sector : ℕ) (w : View) : Type 0 where
  pub went : Relocated v 0 w
  pub cleared : w.cleared ≡ v.cleared
  pub programs : w.programs ≡ v.programs
  pub ceded : w.ceded ≡ v.ceded
  pub named : w.named ≡ v.named ++ (sector, map_word page) ∷ []
  pub low : sector < v.numbers.sectors
  pub value : List ℕ
  pub whole : IsValue v.numbers value
  pub source : w.source ≡ Some (record { page = page; stamp = sector; value = Some value })

-- what the search for the next page's sector records, by its result
abbrev pub FoundTold : View → MapWord → Option ℕ → View → Type 0
FoundTold v page result w = MatchOption result (FoundDead v page w) (λ sector. FoundLive v page sector w)

-- The spare was made the destination if there was none, and nothing else was done
pub record Opened (s t : BroomSeat) : Type 0 where
  pub view : broom_view t ≡ broom_view s
  pub kept : (o : OpenBlock) → (own_blocks s).destination ≡ Some o → own_blocks t ≡ own_blocks s
  pub opened : (own_blocks s).destination ≡ None → own_blocks t ≡ record (own_blocks s) { destination = (own_blocks s).spare; spare = None }

-- The source was copied to the next page of the destination, and the copy is counted
pub record Copied (v : View) (o : OpenBlock) (x : Source) (copy : MapWord) (w : View) : Type 0 where
  pub went : Relocated v 0 w
  pub cleared : w.cleared ≡ v.cleared
  pub is : copy ≡ next_page (owned_of o)
  pub can : CanMove w x copy
  pub programs : w.programs ≡ v.programs ++ copy ∷ []
  pub ceded : w.ceded ≡ v.ceded
  pub named : w.named ≡ v.named

-- a page and its sector, as the source that is copied
abbrev pub source_of : MapWord → ℕ → List ℕ → Source
source_of page sector value = record { page = page; stamp = sector; value = Some value }

-- what the copy of the source to the destination records
abbrev pub CopyTold : View → Option OpenBlock → MapWord → ℕ → MapWord → View → Type 0
CopyTold v destination page sector copy w =
    (o : OpenBlock) (value : List ℕ) → destination ≡ Some o → v.source ≡ Some (source_of page sector value) → IsValue v.numbers value
    → Copied v o (source_of page sector value) copy w

-- The destination is closed if it is full, and nothing else is done
pub record Tidied (pages : ℕ) (v : View) (x : BroomBlocks) (w : View) (y : BroomBlocks) : Type 0 where
  pub went : Relocated v 0 w
  pub cleared : w.cleared ≡ v.cleared
  pub source : w.source ≡ v.source
  pub room : room_left pages y ≡ room_left pages x
  pub programs : w.programs ≡ v.programs
  pub ceded : (o : OpenBlock) → x.destination ≡ Some (record o { written = o.written + 1 }) → w.ceded ≡ v.ceded ++ filled_by pages (page_at o o.written ∷ [])
  pub named : w.named ≡ v.named
  pub left : pages_to_fill pages y ≡ pages_to_fill pages x
  pub spare : y.spare ≡ x.spare
  pub work : (w.work ≡ v.work) ⊎ ((w.work ≡ None) × (y.destination ≡ None))

-- The next page of the victim is cleared, and this many were moved. At most one page of the room was used: the next one if the page was
-- live, and none if it was dead
pub record Cleared (pages : ℕ) (v : View) (x : BroomBlocks) (page : MapWord) (copied : ℕ) (w : View) (y : BroomBlocks) : Type 0 where
  pub went : Relocated v copied w
  pub cleared : w.cleared ≡ v.cleared + 1
  pub source : w.source ≡ None
  pub room : room_left pages x ≤ room_left pages y + 1
  pub find : Option (ℕ × ℕ)
  pub named : w.named ≡ v.named ++ looks_in (find ∷ [])
  pub copies : List MapWord
  pub each : length copies ≡ count_if (is_live page find)
  pub moved : copied ≤ length copies
  pub ceded : w.ceded ≡ v.ceded ++ filled_by pages copies
  pub programmed : Programmed pages v x copies w y

-- a broom's seat has cleared the next page of its victim
abbrev pub ClearTold : ℕ → BroomSeat → MapWord → ℕ → BroomSeat → Type 0
ClearTold pages s page copied t = Cleared pages (broom_view s) (own_blocks s) page copied (broom_view t) (own_blocks t)
