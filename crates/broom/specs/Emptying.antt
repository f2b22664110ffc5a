-- What a broom leaves of the room that it copies to, when it has emptied its victim.
use Rattle.std.specs.Prelude.{◌≡◌, ℕ, ◌+◌, ◌-◌, ◌<◌, ◌≤◌, ◌==◌, Bool, true, false, List, [], ◌∷◌, ◌++◌, Option, None, Some, length, map}
use Rattle.std.specs.List.{range_with_len}
use Rattle.geometry.specs.Words.{map_word}
use Rattle.geometry.specs.declared.words.Phase.TheVariants.{Closed, Drained}
use Rattle.geometry.specs.declared.words.MapWord.{MapWord}
use Rattle.flash_rule.specs.declared.facts.Owned.{Owned}
use Rattle.flash_rule.specs.declared.facts.Work.{Work}
use Rattle.flash_rule.specs.declared.view.View.{View}
use Rattle.flash_table.specs.declared.pass.OpenBlock.{OpenBlock}
use Rattle.flash_table.specs.declared.broom_seat.BroomBlocks.{BroomBlocks}
use Rattle.flash_table.specs.declared.broom_seat.ReclaimedBlock.{ReclaimedBlock}
use Rattle.flash_table.specs.declared.broom_seat.BroomSeat.{BroomSeat}
use Rattle.flash_table.specs.Owning.{reclaimed_as}
use Rattle.flash_table.specs.Flash.{broom_view, own_blocks}

-- a page of the victim, in its generation
abbrev pub victim_page : ReclaimedBlock → ℕ → MapWord
victim_page x page = record { generation = x.generation; block = x.block; page = page }

-- a page of an open block, in its generation
abbrev pub page_at : OpenBlock → ℕ → MapWord
page_at o page = record { generation = o.generation; block = o.block; page = page }

-- the pages that are left in a block, in order, if there is one
abbrev pub pages_left : ℕ → Option OpenBlock → List MapWord
pages_left pages None = []
pages_left pages (Some o) = map (page_at o) (range_with_len o.written (pages - o.written))

-- the pages that a broom copies to, in order: those left in its destination, and then those of its spare
abbrev pub pages_to_fill : ℕ → BroomBlocks → List MapWord
pages_to_fill pages x = pages_left pages x.destination ++ pages_left pages x.spare

-- the block of this page, closed with all its pages up to this one, or nothing
abbrev pub closed_if : Bool → MapWord → List Owned
closed_if true page = record { block = page.block; phase = Closed; generation = page.generation; written = page.page + 1 } ∷ []
closed_if false page = []

-- the blocks that these pages fill, full and closed: that of each page that is the last one of its block
abbrev pub filled_by : ℕ → List MapWord → List Owned
filled_by pages [] = []
filled_by pages (page ∷ others) = closed_if (page.page + 1 == pages) page ++ filled_by pages others

-- what a broom has given up that emptied its victim: the blocks that the copies filled, closed, and behind them the victim, drained
abbrev pub given_up : ℕ → List MapWord → ReclaimedBlock → List Owned
given_up pages copies victim = filled_by pages copies ++ reclaimed_as Drained victim ∷ []

-- one or none
abbrev pub count_if : Bool → ℕ
count_if true = 1
count_if false = 0

-- the looks at the victim's pages: for each page a sector with the map word found there, or nothing if there was no look
abbrev pub looks_in : List (Option (ℕ × ℕ)) → List (ℕ × ℕ)
looks_in [] = []
looks_in (None ∷ finds) = looks_in finds
looks_in (Some look ∷ finds) = look ∷ looks_in finds

-- a page is live if the map word found names it
abbrev pub is_live : MapWord → Option (ℕ × ℕ) → Bool
is_live page None = false
is_live page (Some look) = look.1 == map_word page

-- how many of the victim's pages were live, from this index on
abbrev pub live_from : ReclaimedBlock → ℕ → List (Option (ℕ × ℕ)) → ℕ
live_from x page [] = 0
live_from x page (find ∷ finds) = count_if (is_live (victim_page x page) find) + live_from x (page + 1) finds

-- These pages were programmed, in this order: the first ones of those to be filled, and the others are left. The spare stays if the
-- destination had a page for each of them; otherwise it is the destination. The page filled last is the last of these
pub record Programmed (pages : ℕ) (v : View) (x : BroomBlocks) (copies : List MapWord) (w : View) (y : BroomBlocks) : Type 0 where
  pub listed : w.programs ≡ v.programs ++ copies
  pub left : pages_to_fill pages x ≡ copies ++ pages_to_fill pages y
  pub spare_kept : length copies ≤ length (pages_left pages x.destination) → y.spare ≡ x.spare
  pub spare_used : length (pages_left pages x.destination) < length copies → y.spare ≡ None
  pub idle : copies ≡ [] → (w.work ≡ v.work) × (y.destination ≡ x.destination)
  pub filled : (k : Work) → ¬ (copies ≡ []) → w.work ≡ Some k → (earlier : List MapWord) × (copies ≡ earlier ++ k.page ∷ [])
  pub filling : (o : OpenBlock) → ¬ (copies ≡ []) → y.destination ≡ Some o → (k : Work) × (w.work ≡ Some k)

-- A victim was emptied: for each of its written pages, in order, a look was made or none. As many pages were programmed as the looks found
-- live, and at most as many were moved. Whether a page without a look had no sector is not said
pub record Emptied (pages : ℕ) (victim : ReclaimedBlock) (v : View) (x : BroomBlocks) (copied : ℕ) (w : View) (y : BroomBlocks) : Type 0 where
  pub finds : List (Option (ℕ × ℕ))
  pub visited : length finds ≡ victim.written
  pub named : w.named ≡ v.named ++ looks_in finds
  pub copies : List MapWord
  pub each : length copies ≡ live_from victim 0 finds
  pub moved : copied ≤ length copies
  pub programmed : Programmed pages v x copies w y

-- a broom's seat has emptied its victim, and has given up the blocks that the copies filled, and no others
abbrev pub HasEmptied : ℕ → ReclaimedBlock → BroomSeat → ℕ → BroomSeat → Type 0
HasEmptied pages victim s copied t =
    (e : Emptied pages victim (broom_view s) (own_blocks s) copied (broom_view t) (own_blocks t))
    × ((broom_view t).ceded ≡ (broom_view s).ceded ++ filled_by pages e.copies)
