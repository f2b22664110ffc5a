-- What the steps of brooms need, and what they record. A broom fills, counts and closes its own open block in the same way as a pass, by
-- `put_told`, `count_told` and `close_told`.
use Rattle.std.specs.Prelude.{◌≡◌, ℕ, ◌+◌, ◌*◌, ◌<◌, ◌≤◌, ◌==◌, ◌&&◌, ◌⊎◌, Bool, false, true, if◌then◌else◌, List, [], ◌∷◌, ◌++◌, Option, None, Some, slice_get}
use Rattle.atomic_table.specs.Table.{Step}
use Rattle.geometry.specs.History.{held, Begins}
use Rattle.geometry.specs.Words.{map_word, FitsMap, pin_word, FitsPin, pin_index, page_index}
use Rattle.geometry.specs.declared.words.MapWord.{MapWord}
use Rattle.geometry.specs.declared.words.PinWord.{PinWord}
use Rattle.geometry.specs.declared.words.Phase.{Phase}
use Rattle.geometry.specs.declared.words.Phase.TheVariants.{Open, Closed, Victim, Drained, Erasing, Retired}
use Rattle.flash_rule.specs.declared.facts.Owned.{Owned}
use Rattle.flash_rule.specs.declared.facts.Source.{Source}
use Rattle.flash_rule.specs.declared.facts.Inspection.{Inspection}
use Rattle.flash_rule.specs.declared.facts.Cycle.{Cycle}
use Rattle.flash_rule.specs.declared.carried.Carried.{Carried}
use Rattle.flash_rule.specs.declared.view.View.{View}
use Rattle.flash_rule.specs.Views.{owned_at, without, with_owned, AreOfHosts}
use Rattle.flash_rule.specs.World.{data_word, blank_word, sector_word}
use Rattle.flash_rule.specs.Ceded.{freed_as}
use Rattle.flash_rule.specs.Rule.{IsValue}
use Rattle.flash_rule.specs.Plays.{Sitter, Met, CanPlace}

-- LOOK OF A BROOM. The broom sees the history of this moment and records the word found. The word is 0 if the sector is empty after that
-- history; otherwise it names a page with the sector's value. A source with this sector's stamp gets that value if the word names its page;
-- if not, the page is dead, and one page more is cleared. Any other source stays
pub record Named (v : View) (s n : ℕ) (w : View) : Type 0 where
  pub changed : w ≡ record v { seen = w.seen; named = v.named ++ (s, n) ∷ []; source = w.source; cleared = w.cleared }
  pub later : Begins v.seen w.seen
  pub callers : AreOfHosts v.numbers w.seen
  pub empty : n ≡ 0 → held v.numbers.sectors w.seen s ≡ None
  pub page : ¬ (n ≡ 0) → (m : MapWord) × (value : List ℕ) × (n ≡ map_word m) × FitsMap m × (held v.numbers.sectors w.seen s ≡ Some value)
      × IsValue v.numbers value
      × (m.block < v.numbers.blocks) × (m.page < v.numbers.pages)
  pub live : (x : Source) (value : List ℕ) → v.source ≡ Some x → x.stamp ≡ s → n ≡ map_word x.page → held v.numbers.sectors w.seen s ≡ Some value
      → (w.source ≡ Some (record x { value = Some value })) × (w.cleared ≡ v.cleared)
  pub dead : (x : Source) → v.source ≡ Some x → x.stamp ≡ s → ¬ (n ≡ map_word x.page) → (w.source ≡ None) × (w.cleared ≡ v.cleared + 1)
  pub others : ((x : Source) → v.source ≡ Some x → ¬ (x.stamp ≡ s)) → (w.source ≡ v.source) × (w.cleared ≡ v.cleared)
  pub met : (c : Carried) → v.copy ≡ Some c → Met w c

-- what a look records for a broom
abbrev pub broom_look_told : Step (Unit {0}) → Sitter → ℕ → Sitter → Type 0
broom_look_told st me n after = (after.1 ≡ me.1) × Named me.0 st.word n after.0

-- GET STAMP. The next uncleared page of a victim of its own is a written one. A stamp that is a sector makes it the source; any other stamp
-- means that it is dead, and one page more is cleared
pub record CanGetStamp (v : View) (o : Owned) : Type 0 where
  pub own : owned_at o.block v.owns ≡ Some o
  pub victim : o.phase ≡ Victim
  pub written : v.cleared < o.written

-- the next uncleared page of a victim, in its generation
abbrev pub victim_page : View → Owned → MapWord
victim_page v o = record { generation = o.generation; block = o.block; page = v.cleared }

-- A stamp that is a sector is now that of the source; any other stamp means that the page is dead
pub record GotStamp (v : View) (o : Owned) (n : ℕ) (w : View) : Type 0 where
  pub sector : n < v.numbers.sectors → w ≡ record v { source = Some (record { page = victim_page v o; stamp = n; value = None }) }
  pub dead : v.numbers.sectors ≤ n → w ≡ record v { source = None; cleared = v.cleared + 1 }

-- what loading the stamp of the next page records for a broom
abbrev pub stamp_told : Step (Unit {0}) → Sitter → ℕ → Sitter → Type 0
stamp_told st me n after =
    (after.1 ≡ me.1)
    × ((o : Owned) → CanGetStamp me.0 o → st.word ≡ page_index me.0.numbers o.block me.0.cleared + me.0.numbers.words → GotStamp me.0 o n after.0)

-- GET SOURCE. A word of the source's page is the value's, if the source has a value; the view stays
abbrev pub source_told : Step (Unit {0}) → Sitter → ℕ → Sitter → Type 0
source_told st me n after =
    (after ≡ me)
    × ((x : Source) (value : List ℕ) (i : ℕ) → me.0.source ≡ Some x → x.value ≡ Some value → i < me.0.numbers.words
    → st.word ≡ page_index me.0.numbers x.page.block x.page.page + i → n ≡ data_word value i)

-- MOVE TO. The source has its value, and the broom has filled and counted a page with the same value and stamp
pub record CanMove (v : View) (x : Source) (copy : MapWord) : Type 0 where
  pub is : v.source ≡ Some x
  pub value : List ℕ
  pub live : x.value ≡ Some value
  pub copied : CanPlace v x.stamp copy value

-- The broom sees the history of this moment, with no call added. Either the word named the source's page and now names the copy, or it no
-- longer named it; in both cases the page is dead, and one page more is cleared
pub record Moved (v : View) (x : Source) (n : ℕ) (w : View) : Type 0 where
  pub changed : w ≡ record v { seen = w.seen; source = None; cleared = v.cleared + 1; moves = w.moves }
  pub later : Begins v.seen w.seen
  pub callers : AreOfHosts v.numbers w.seen
  pub succeeded : n ≡ map_word x.page → (w.moves ≡ v.moves + 1) × (held v.numbers.sectors w.seen x.stamp ≡ x.value)
  pub failed : ¬ (n ≡ map_word x.page) → w.moves ≡ v.moves
  pub met : (c : Carried) → v.copy ≡ Some c → Met w c

-- what an exchange of a map word records for a broom
abbrev pub move_told : Step (Unit {0}) → Sitter → ℕ → Sitter → Type 0
move_told st me n after =
    (after.1 ≡ me.1)
    × ((x : Source) (copy : MapWord) → CanMove me.0 x copy → FitsMap x.page → FitsMap copy → st.word ≡ x.stamp → st.first ≡ map_word x.page
    → st.second ≡ map_word copy
    → Moved me.0 x n after.0)

-- STATE. The broom records the block and its word. Its generation is less than the endurance, and it has no more pages written than a block
-- has. A drained block with readers is busy, a drained one without them is ready, and a block that isn't drained is stale
pub record Loaded (v : View) (b n : ℕ) (w : View) : Type 0 where
  pub state : PinWord
  pub fits : FitsPin state
  pub young : state.generation < v.numbers.endurance
  pub within : state.written ≤ v.numbers.pages
  pub found : n ≡ pin_word state
  pub ready : state.phase ≡ Drained → state.readers ≡ 0 → w ≡ record v { loaded = v.loaded ++ (b, n) ∷ [] }
  pub busy : state.phase ≡ Drained → 0 < state.readers → w ≡ record v { loaded = v.loaded ++ (b, n) ∷ []; busy = v.busy ++ b ∷ [] }
  pub stale : ¬ (state.phase ≡ Drained) → w ≡ record v { loaded = v.loaded ++ (b, n) ∷ []; stale = v.stale ++ b ∷ [] }

-- what loading a block's state records for a broom
abbrev pub state_told : Step (Unit {0}) → Sitter → ℕ → Sitter → Type 0
state_told st me n after = (after.1 ≡ me.1) × ((b : ℕ) → b < me.0.numbers.blocks → st.word ≡ pin_index me.0.numbers b → Loaded me.0 b n after.0)

-- The word is the one that the broom loaded last for this block
pub record IsLastLoaded (v : View) (b word : ℕ) : Type 0 where
  pub earlier : List (ℕ × ℕ)
  pub later : List (ℕ × ℕ)
  pub is : v.loaded ≡ earlier ++ (b, word) ∷ later
  pub last : (k : ℕ) (x : ℕ × ℕ) → slice_get later k ≡ Some x → ¬ (x.0 ≡ b)

-- The broom drains no block and erases none: all blocks of its own are open. So the one that it claims or condemns next is the only one
-- that it drains or erases, until it gives that block up or opens it again
abbrev pub IsAtRest : View → Type 0
IsAtRest v = (b : ℕ) (o : Owned) → owned_at b v.owns ≡ Some o → o.phase ≡ Open

-- a block in this state as its owner has it, in another phase
abbrev pub owned_as : ℕ → PinWord → Phase → Owned
owned_as b p phase = record { block = b; phase = phase; generation = p.generation; written = p.written }

-- the generation of an owned block
abbrev pub cycle_of : Owned → Cycle
cycle_of o = record { block = o.block; generation = o.generation }

-- CLAIM. A broom at rest expects the closed state that it loaded last for this block
pub record CanClaim (v : View) (b : ℕ) (p : PinWord) : Type 0 where
  pub low : b < v.numbers.blocks
  pub fits : FitsPin p
  pub closed : p.phase ≡ Closed
  pub loaded : IsLastLoaded v b (pin_word p)
  pub rested : IsAtRest v

-- A block found in the expected state wasn't the broom's, and is now its victim, with no page cleared; otherwise the claim is lost
pub record Claimed (v : View) (b : ℕ) (p : PinWord) (n : ℕ) (w : View) : Type 0 where
  pub fresh : n ≡ pin_word p → owned_at b v.owns ≡ None
  pub won : n ≡ pin_word p → w ≡ record v { owns = with_owned (owned_as b p Victim) v.owns; cleared = 0 }
  pub lost : ¬ (n ≡ pin_word p) → w ≡ record v { lost = v.lost ++ b ∷ [] }

-- what a claim records for a broom
abbrev pub claim_told : Step (Unit {0}) → Sitter → ℕ → Sitter → Type 0
claim_told st me n after =
    (after.1 ≡ me.1)
    × ((b : ℕ) (p : PinWord) → CanClaim me.0 b p → st.word ≡ pin_index me.0.numbers b → st.first ≡ pin_word p → Claimed me.0 b p n after.0)

-- CONDEMN. A broom at rest expects the drained state without readers that it loaded last for this block
pub record CanCondemn (v : View) (b : ℕ) (p : PinWord) : Type 0 where
  pub low : b < v.numbers.blocks
  pub fits : FitsPin p
  pub drained : p.phase ≡ Drained
  pub unread : p.readers ≡ 0
  pub loaded : IsLastLoaded v b (pin_word p)
  pub rested : IsAtRest v

-- A block found in the expected state wasn't the broom's, and now it is, to be erased, with no word wiped and its erase listed; otherwise
-- it is busy
pub record Condemned (v : View) (b : ℕ) (p : PinWord) (n : ℕ) (w : View) : Type 0 where
  pub fresh : n ≡ pin_word p → owned_at b v.owns ≡ None
  pub won : n ≡ pin_word p → w
      ≡ record v { owns = with_owned (owned_as b p Erasing) v.owns; erases = v.erases ++ cycle_of (owned_as b p Erasing) ∷ []; wiped = 0 }
  pub busy : ¬ (n ≡ pin_word p) → w ≡ record v { busy = v.busy ++ b ∷ [] }

-- what a condemn records for a broom
abbrev pub condemn_told : Step (Unit {0}) → Sitter → ℕ → Sitter → Type 0
condemn_told st me n after =
    (after.1 ≡ me.1)
    × ((b : ℕ) (p : PinWord) → CanCondemn me.0 b p → st.word ≡ pin_index me.0.numbers b → st.first ≡ pin_word p → Condemned me.0 b p n after.0)

-- how many sectors, from 0 on, were found to have no page in this generation of a block
abbrev pub inspected_in : Option Inspection → ℕ → ℕ → ℕ
inspected_in None b generation = 0
inspected_in (Some x) b generation = if x.block == b && x.generation == generation then x.sectors else 0

-- whether a map word names a page of this block in this generation
abbrev pub is_page_of : ℕ → ℕ → Option MapWord → Bool
is_page_of b generation None = false
is_page_of b generation (Some m) = m.block == b && m.generation == generation

-- INSPECT. The block was closed when the broom loaded its state, which is the last one that it loaded, and the sectors before
-- this one were passed
pub record CanInspect (v : View) (b : ℕ) (p : PinWord) (s : ℕ) : Type 0 where
  pub low : b < v.numbers.blocks
  pub fits : FitsPin p
  pub closed : p.phase ≡ Closed
  pub earlier : List (ℕ × ℕ)
  pub loaded : v.loaded ≡ earlier ++ (b, pin_word p) ∷ []
  pub next : s ≤ inspected_in v.inspection b p.generation

-- A sector that has no page in this generation of the block is passed, and nothing else changes; any other one was looked at, and is not
-- passed
pub record Inspected (v : View) (b generation s n : ℕ) (w : View) : Type 0 where
  pub found : Option MapWord
  pub word : n ≡ sector_word found
  pub fits : (m : MapWord) → found ≡ Some m → FitsMap m
  pub passed : is_page_of b generation found ≡ false → w ≡ record v { inspection = Some (record { block = b; generation = generation; sectors = s + 1 }) }
  pub stopped : is_page_of b generation found ≡ true → w ≡ record v { named = v.named ++ (s, n) ∷ [] }

-- what a look at the next sector of an inspection records for a broom
abbrev pub inspect_told : Step (Unit {0}) → Sitter → ℕ → Sitter → Type 0
inspect_told st me n after =
    (after.1 ≡ me.1) × ((b : ℕ) (p : PinWord) → CanInspect me.0 b p st.word → Inspected me.0 b p.generation st.word n after.0)

-- no sector has a page in this owned block: the broom has inspected the block, and relocates no page
pub record IsInspected (v : View) (o : Owned) : Type 0 where
  pub source : v.source ≡ None
  pub all : v.numbers.sectors ≤ inspected_in v.inspection o.block o.generation

-- DRAIN. All counted pages of a victim of its own are cleared, or the block is inspected; it has no owner from now on, and is drained with these
-- pages
pub record CanDrain (v : View) (o : Owned) : Type 0 where
  pub own : owned_at o.block v.owns ≡ Some o
  pub victim : o.phase ≡ Victim
  pub emptied : (o.written ≤ v.cleared) ⊎ IsInspected v o

-- what a drain records for a broom
abbrev pub drain_told : Step (Unit {0}) → Sitter → ℕ → Sitter → Type 0
drain_told st me n after =
    (after.1 ≡ me.1)
    × ((o : Owned) → CanDrain me.0 o → st.word ≡ pin_index me.0.numbers o.block
    → after.0 ≡ record me.0 {
      owns = without o.block me.0.owns;
      drains = me.0.drains ++ cycle_of o ∷ [];
      ceded = me.0.ceded ++ record o { phase = Drained } ∷ [];
    })

-- the broom erases this block of its own
pub record IsErasing (v : View) (o : Owned) : Type 0 where
  pub own : owned_at o.block v.owns ≡ Some o
  pub erasing : o.phase ≡ Erasing

-- how many words the pages of a block have, with their stamps
abbrev pub block_words : View → ℕ
block_words v = v.numbers.pages * (v.numbers.words + 1)

-- WIPE. The next word of an erasing block of its own becomes all ones
pub record CanWipe (v : View) (o : Owned) : Type 0 where
  pub erasing : IsErasing v o
  pub room : v.wiped < block_words v

-- the broom has wiped one word more
abbrev pub wiper : View → View
wiper v = record v { wiped = v.wiped + 1 }

-- what wiping one word records for a broom
abbrev pub wipe_told : Step (Unit {0}) → Sitter → ℕ → Sitter → Type 0
wipe_told st me n after =
    (after.1 ≡ me.1)
    × ((o : Owned) → CanWipe me.0 o → st.word ≡ page_index me.0.numbers o.block 0 + me.0.wiped → st.first ≡ blank_word → after.0 ≡ wiper me.0)

-- The whole block is wiped, and it has another generation left
pub record CanRenew (v : View) (o : Owned) : Type 0 where
  pub erasing : IsErasing v o
  pub clean : block_words v ≤ v.wiped
  pub another : o.generation + 1 < v.numbers.endurance

-- FREE. The wiped block has no owner from now on, and is free in its next generation with nothing written
abbrev pub freed_told : Step (Unit {0}) → Sitter → ℕ → Sitter → Type 0
freed_told st me n after =
    (after.1 ≡ me.1)
    × ((o : Owned) → CanRenew me.0 o → st.word ≡ pin_index me.0.numbers o.block
    → after.0 ≡ record me.0 { owns = without o.block me.0.owns; ceded = me.0.ceded ++ freed_as o ∷ [] })

-- KEEP. The wiped block stays the broom's, open in its next generation with nothing written
abbrev pub kept_told : Step (Unit {0}) → Sitter → ℕ → Sitter → Type 0
kept_told st me n after =
    (after.1 ≡ me.1)
    × ((o : Owned) → CanRenew me.0 o → st.word ≡ pin_index me.0.numbers o.block
    → after.0 ≡ record me.0 { owns = with_owned (record { block = o.block; phase = Open; generation = o.generation + 1; written = 0 }) me.0.owns })

-- The block that is being erased is in its last generation
pub record CanRetire (v : View) (o : Owned) : Type 0 where
  pub erasing : IsErasing v o
  pub last : o.generation + 1 ≡ v.numbers.endurance

-- RETIRE. The block that was being erased for the last time has no owner from now on, and stays retired with these pages written
abbrev pub retired_told : Step (Unit {0}) → Sitter → ℕ → Sitter → Type 0
retired_told st me n after =
    (after.1 ≡ me.1)
    × ((o : Owned) → CanRetire me.0 o → st.word ≡ pin_index me.0.numbers o.block
    → after.0 ≡ record me.0 { owns = without o.block me.0.owns; ceded = me.0.ceded ++ record o { phase = Retired } ∷ [] })
