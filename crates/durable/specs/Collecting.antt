-- How many sectors are mapped to each block, and when there is room to collect.
use Rattle.std.specs.Prelude.{◌≡◌, ◌≢◌, ◌⊎◌, ◌<◌, ◌≤◌, ◌+◌, ◌-◌, ◌*◌, ◌/◌, ◌==◌, ℕ, Bool, false, cond, min, max, List, [], ◌∷◌, length}
use Rattle.std.specs.Prelude.{Option, None, Some, IfSome, slice_index_or}
use Rattle.geometry.specs.declared.page_addr.PageAddr.{PageAddr}
use Rattle.durable.specs.Updates.{Covers}
use Rattle.durable.specs.declared.extent.Extent.{Extent}
use Rattle.durable.specs.declared.next_pages.NextPages.{NextPages}

-- no sector is mapped to the block
abbrev pub IsFree : List (Option PageAddr) → ℕ → Type 0
IsFree map b = (s : ℕ) (at : PageAddr) → s < length map → slice_index_or map s None ≡ Some at → at.block ≢ b

-- the sectors of an extent are mapped to a page, and the others as before
pub record MapsAll (old new : List (Option PageAddr)) (extent : Extent) (to : PageAddr) : Type 0 where
  pub size : length new ≡ length old
  pub covered : (s : ℕ) → Covers extent s → slice_index_or new s None ≡ Some to
  pub others : (s : ℕ) → ¬ Covers extent s → slice_index_or new s None ≡ slice_index_or old s None

-- whether the entry names the block
abbrev pub is_in : ℕ → Option PageAddr → Bool
is_in b None = false
is_in b (Some at) = at.block == b

-- one if the entry names the block
abbrev pub weight : ℕ → Option PageAddr → ℕ
weight b entry = cond (is_in b entry) 1 0

-- how many sectors are mapped to the block
abbrev pub live_in : ℕ → List (Option PageAddr) → ℕ
live_in b [] = 0
live_in b (entry ∷ map) = weight b entry + live_in b map

-- the counts are those of the live pages of each block
abbrev pub AreLiveCounts : List ℕ → List (Option PageAddr) → Type 0
AreLiveCounts counts map = (b : ℕ) → b < length counts → slice_index_or counts b 0 ≡ live_in b map

-- the sectors fit in all blocks but one, with a page to spare
abbrev pub HasCapacity : ℕ → ℕ → ℕ → Type 0
HasCapacity sectors blocks pages = sectors < (blocks - 1) * pages

-- a block is open, and this is its next page
abbrev pub IsOpenAt : NextPages → PageAddr → Type 0
IsOpenAt next at = (next.hosts ≡ Some at) ⊎ (next.copies ≡ Some at)

-- the block isn't open
abbrev pub IsNotOpen : NextPages → ℕ → Type 0
IsNotOpen next b = (at : PageAddr) → IsOpenAt next at → b ≢ at.block

-- the two open blocks are two
abbrev pub AreInTwoBlocks : NextPages → Type 0
AreInTwoBlocks next = (at to : PageAddr) → next.hosts ≡ Some at → next.copies ≡ Some to → at.block ≢ to.block

-- each closed block has live pages
abbrev pub AreAllLive : List (Option PageAddr) → ℕ → NextPages → Type 0
AreAllLive map blocks next = (b : ℕ) → b < blocks → IsNotOpen next b → 0 < live_in b map

-- each block beside that of copies has as many live pages as that has erased ones, from this page on, or more
abbrev pub AreAllFull : List (Option PageAddr) → ℕ → ℕ → PageAddr → Type 0
AreAllFull map blocks pages to = (b : ℕ) → b < blocks → b ≢ to.block → pages ≤ live_in b map + to.page

-- there is room to collect: where only the block of copies is open, not all others are full, and otherwise a closed block has no live pages
abbrev pub CanCollect : List (Option PageAddr) → ℕ → ℕ → NextPages → Type 0
CanCollect map blocks pages next =
    (next.hosts ≢ None → AreAllLive map blocks next → ⊥)
    × (next.hosts ≡ None → next.copies ≡ None → AreAllLive map blocks next → ⊥)
    × ((to : PageAddr) → next.hosts ≡ None → next.copies ≡ Some to → AreAllFull map blocks pages to → ⊥)

-- the pages to be programmed next lie on the device
abbrev pub ArePagesOn : ℕ → ℕ → NextPages → Type 0
ArePagesOn blocks pages next = (at : PageAddr) → IsOpenAt next at → (at.block < blocks) × (at.page < pages)

-- the page after this one, if its block has one
abbrev pub IsPageAfter : PageAddr → ℕ → Option PageAddr → Type 0
IsPageAfter at pages next = IfSome next (λ to. (to.block ≡ at.block) × (to.page ≡ at.page + 1) × (to.page < pages)) × (next ≡ None → at.page + 1 ≡ pages)

-- what a host writes goes to the block of hosts, and while that isn't open to the block of copies
abbrev pub page_for_hosts : Option PageAddr → Option PageAddr → Option PageAddr
page_for_hosts (Some at) copies = Some at
page_for_hosts None copies = copies

-- the next pages after a host has written one of them
abbrev pub IsProgrammed : NextPages → PageAddr → ℕ → NextPages → Type 0
IsProgrammed old at pages new =
    ((on : PageAddr) → old.hosts ≡ Some on → IsPageAfter at pages new.hosts × (new.copies ≡ old.copies))
    × (old.hosts ≡ None → (new.hosts ≡ None) × IsPageAfter at pages new.copies)

-- the next pages after a copy
abbrev pub IsCopied : NextPages → PageAddr → ℕ → NextPages → Type 0
IsCopied old to pages new = (new.hosts ≡ old.hosts) × IsPageAfter to pages new.copies

-- the first page of a block
abbrev pub first_page : ℕ → PageAddr
first_page b = record { block = b; page = 0 }

-- the most commands that a call still needs are enough for it: with no block open an erase comes first, and the block of copies may be filled but for a page
abbrev pub IsEnough : ℕ → NextPages → ℕ → Type 0
IsEnough pages next left =
    (0 < left) × (left ≤ pages + 1) × (next.hosts ≡ None → next.copies ≡ None → left ≡ pages + 1)
    × ((to : PageAddr) → next.hosts ≡ None → next.copies ≡ Some to → pages ≤ left + to.page)

-- each of so many equal shares of a number, rounded up
abbrev pub even_share : ℕ → ℕ → ℕ
even_share number count = cond (number == 0) 0 ((number - 1) / max count 1 + 1)

-- the most copies before a program while a block is free: with as many, a block that has an even share of the sectors is empty before hosts have written its
-- other pages; and one more
abbrev pub most_copies : ℕ → ℕ → ℕ → ℕ
most_copies sectors blocks pages = let live = sectors / max (blocks - 5) 1 in min (even_share live (pages - live)) pages + 1
