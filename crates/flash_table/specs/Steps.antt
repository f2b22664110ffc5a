-- What the steps of a seat need, and what they leave, in terms of its own blocks; and what a look at the next sector of an inspection records.
use Rattle.std.specs.Prelude.{◌≡◌, ℕ, ◌+◌, Bool, [], ◌∷◌, ◌++◌, Some, MatchBool, ◌<◌, ◌≤◌, List, Option, None, length}
use Rattle.geometry.specs.Words.{map_word, FitsMap, FitsPin, pin_word}
use Rattle.geometry.specs.declared.words.MapWord.{MapWord}
use Rattle.flash_rule.specs.declared.view.View.{View}
use Rattle.geometry.specs.Geometry.{blocks_of, pages_of}
use Rattle.geometry.specs.declared.geometry.Geometry.{Geometry}
use Rattle.geometry.specs.declared.words.PinWord.{PinWord}
use Rattle.geometry.specs.declared.words.Phase.TheVariants as phase
use Rattle.flash_rule.specs.declared.carried.Carried.{Carried}
use Rattle.flash_rule.specs.declared.facts.Name.{Name}
use Rattle.flash_rule.specs.declared.facts.Name.TheVariants.{Pass as APass}
use Rattle.flash_rule.specs.declared.facts.Pin.TheVariants as pin
use Rattle.flash_rule.specs.declared.facts.Role.TheVariants.{Player}
use Rattle.flash_rule.specs.declared.facts.Source.{Source}
use Rattle.flash_rule.specs.declared.facts.Work.{Work}
use Rattle.flash_rule.specs.BroomPlays.{GotStamp, IsInspected, Moved, owned_as}
use Rattle.flash_rule.specs.Plays.{CanClose, CanCount, CanPut, Spared, next_page, words_in, Called, CanPlace}
use Rattle.flash_rule.specs.Views.{with_owned}
use Rattle.flash_rule.specs.World.{Intact}
use Rattle.flash_table.specs.Flash.{IsBroomOf, IsPassOf, Strayed, broom_view, device, first_blocks, first_broom, first_view, opened_of, own_blocks, view_of}
use Rattle.flash_table.specs.Flash.{Taken, Denied}
use Rattle.flash_table.specs.Owning.{owned_of, reclaimed_as}
use Rattle.flash_table.specs.declared.broom_seat.BroomBlocks.{BroomBlocks}
use Rattle.flash_table.specs.declared.broom_seat.BroomSeat.{BroomSeat}
use Rattle.flash_table.specs.declared.broom_seat.ReclaimedBlock.{ReclaimedBlock}
use Rattle.flash_table.specs.declared.broom_seat.Reclaiming.TheVariants as reclaiming
use Rattle.flash_table.specs.declared.flash.Flash.{Flash}
use Rattle.flash_table.specs.declared.pass.OpenBlock.{OpenBlock}
use Rattle.flash_table.specs.declared.pass.Pass.{Pass}
use Rattle.geometry.specs.History.{Call}
use Rattle.geometry.specs.declared.answer.Was.{Was}

-- The sector has a page in this generation of the block, and its look is listed; nothing else has changed
pub record FoundPage (v : View) (b generation s : ℕ) (w : View) : Type 0 where
  pub page : MapWord
  pub fits : FitsMap page
  pub block : page.block ≡ b
  pub same : page.generation ≡ generation
  pub changed : w ≡ record v { named = v.named ++ (s, map_word page) ∷ [] }

-- or it has none, and the inspection has passed it
abbrev pub PassedSector : View → ℕ → ℕ → ℕ → View → Type 0
PassedSector v b generation s w = w ≡ record v { inspection = Some (record { block = b; generation = generation; sectors = s + 1 }) }

-- what the look records, by its result
abbrev pub InspectTold : View → ℕ → ℕ → ℕ → Bool → View → Type 0
InspectTold v b generation s result w = MatchBool result (FoundPage v b generation s w) (PassedSector v b generation s w)

-- the pass has this number
abbrev pub HasNumber : ℕ → Pass → Type 0
HasNumber t pass = (view_of pass).role ≡ Player (APass t)

-- the pass has made a call, and knows what its sector was
abbrev pub HasCalled : Pass → Call → ℕ → Was → Pass → Type 0
HasCalled old call s answer new = Called (view_of old) call s answer (view_of new)

-- a page that can be named as a sector's was named, by a call of the pass
abbrev pub PlaceTold : (ℕ → List ℕ → Call) → Pass → ℕ → MapWord → Was → Pass → Type 0
PlaceTold call old s page answer new = (t : ℕ) (value : List ℕ) → HasNumber t old → CanPlace (view_of old) s page value
    → HasCalled old (call t value) s answer new

-- what the take of a block records, by its result
abbrev pub TakeTold : View → ℕ → Bool → View → Option OpenBlock → Type 0
TakeTold v block result w opened = MatchBool result (Taken v block w opened) (Denied v block w opened)

-- a pass with this number of an unused device
abbrev pub IsNewPass : Flash → ℕ → Pass → Type 0
IsNewPass f t p = IsPassOf f p × (view_of p ≡ first_view (device f) t) × (opened_of p ≡ None)

-- a broom's seat with this number of an unused device
abbrev pub IsNewBroom : Flash → ℕ → BroomSeat → Type 0
IsNewBroom f i b = IsBroomOf f b × (broom_view b ≡ first_broom (device f) i) × (own_blocks b ≡ first_blocks (device f) i)

-- a note is the one that this seat has lent, and is back with what another player knows
abbrev pub IsBack : View → View → Type 0
IsBack v note = (n : Name) × (c : Carried) × (v.role ≡ Player n) × (note.guest ≡ Some n) × (note.copy ≡ Some c) × (¬ (v.role ≡ Player c.of))

-- this word is the next one of the first unwritten page of the open block
abbrev pub IsNextWord : Geometry → View → Option OpenBlock → ℕ → Type 0
IsNextWord geo v opened i = (o : OpenBlock) × (opened ≡ Some o) × CanPut v (owned_of o) × (i ≡ length (words_in v.work (owned_of o)))
    × (o.block < blocks_of geo)

-- a word was put behind those of the first unwritten page of the open block
abbrev pub HasPut : View → Option OpenBlock → ℕ → View → Type 0
HasPut v opened word w = (o : OpenBlock) → opened ≡ Some o
    → w ≡ record v { work = Some (record { page = next_page (owned_of o); words = words_in v.work (owned_of o) ++ word ∷ [] }) }

-- the first unwritten page of the open block is filled
abbrev pub IsFilled : Geometry → View → Option OpenBlock → Type 0
IsFilled geo v opened = (o : OpenBlock) × (x : Work) × (opened ≡ Some o) × CanCount v (owned_of o) x × (o.written < pages_of geo) × (o.block < blocks_of geo)

-- one page more of the destination is written; the broom's other blocks are unchanged
abbrev pub HasOneMore : BroomBlocks → BroomBlocks → Type 0
HasOneMore before after = (o : OpenBlock) → before.destination ≡ Some o → after ≡ record before { destination = Some (record o { written = o.written + 1 }) }

-- the open block can be given up
abbrev pub CanGiveUp : Geometry → View → Option OpenBlock → Type 0
CanGiveUp geo v opened = (o : OpenBlock) × (opened ≡ Some o) × CanClose v (owned_of o) × (o.block < blocks_of geo)

-- this is the word of a block that is intact in this generation
abbrev pub SaysIntact : ℕ → ℕ → Type 0
SaysIntact word generation = (state : PinWord) × FitsPin state × (pin_word state ≡ word) × Intact state generation

-- a block with this word isn't intact in this generation
abbrev pub DeniesIntact : ℕ → ℕ → Type 0
DeniesIntact word generation = (state : PinWord) → FitsPin state → pin_word state ≡ word → ¬ Intact state generation

-- the pin is accepted, and nothing else has changed
abbrev pub WasAccepted : View → MapWord → List ℕ → View → Type 0
WasAccepted v page value w = w ≡ record v { pin = pin.Accepted page value }

-- the candidate's pin was accepted, or it is stray
abbrev pub PinTold : View → MapWord → Bool → View → Type 0
PinTold v page result w = (value : List ℕ) → v.pin ≡ pin.Candidate page value → MatchBool result (WasAccepted v page value w) (Strayed v page.block w)

-- nobody whose knowledge the pass has programmed its pinned page again
abbrev pub IsSpared : View → MapWord → Type 0
IsSpared v page = (value : List ℕ) (c : Carried) → v.pin ≡ pin.Accepted page value → v.copy ≡ Some c → Spared v page c

-- a closed block was claimed as a victim; nothing is cleared of it
abbrev pub IsClaimed : View → ℕ → PinWord → View → Type 0
IsClaimed v block state w = w ≡ record v { owns = with_owned (owned_as block state phase.Victim) v.owns; cleared = 0 }

-- the broom drains this block; its other blocks are unchanged
abbrev pub NowDrains : BroomBlocks → ℕ → PinWord → BroomBlocks → Type 0
NowDrains before block state after =
    after ≡ record before { reclaiming = reclaiming.Draining (record { block = block; generation = state.generation; written = state.written }) }

-- all pages written of the victim are cleared
abbrev pub IsCleared : Geometry → View → BroomBlocks → Type 0
IsCleared geo v blocks = (o : ReclaimedBlock) × (blocks.reclaiming ≡ reclaiming.Draining o) × ((o.block < blocks_of geo) × (o.written ≤ v.cleared))

-- the broom has inspected the victim: no sector has a page in it
abbrev pub HasInspected : Geometry → View → BroomBlocks → Type 0
HasInspected geo v blocks =
    (o : ReclaimedBlock) × (blocks.reclaiming ≡ reclaiming.Draining o) × ((o.block < blocks_of geo) × IsInspected v (reclaimed_as phase.Victim o))

-- this page of the victim is written
abbrev pub IsOfVictim : Geometry → BroomBlocks → ℕ → Type 0
IsOfVictim geo blocks page = (o : ReclaimedBlock) × (blocks.reclaiming ≡ reclaiming.Draining o) × ((o.block < blocks_of geo) × (page < o.written))

-- the stamp of the victim's next page was loaded
abbrev pub StampTold : View → BroomBlocks → ℕ → View → Type 0
StampTold v blocks stamp w = (o : ReclaimedBlock) → blocks.reclaiming ≡ reclaiming.Draining o → GotStamp v (reclaimed_as phase.Victim o) stamp w

-- the sector's map word was exchanged for the copy's, if it still named the source
abbrev pub MoveTold : View → Bool → View → Type 0
MoveTold v result w = (x : Source) → v.source ≡ Some x → (n : ℕ) × Moved v x n w × MatchBool result (n ≡ map_word x.page) (¬ (n ≡ map_word x.page))
