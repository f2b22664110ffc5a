-- The rule of the shared table: the lawful map, pins and blocks, dead pages, ages, and that what was programmed and erased is listed once.
use Rattle.std.specs.Prelude.{◌≡◌, ℕ, ◌+◌, ◌*◌, ◌^◌, ◌<◌, ◌≤◌, ◌⊎◌, true, false, List, [], Option, None, Some, length, slice_index, slice_get}
use mathlib.Core.Option.{some}
use lib.ListN.{get_elem?}
use Rattle.geometry.specs.History.{held, Begins}
use Rattle.geometry.specs.Limits.{Numbers, IsWithinLimits}
use Rattle.geometry.specs.declared.limits.TheConstants.{WORD_BYTES}
use Rattle.geometry.specs.declared.words.MapWord.{MapWord}
use Rattle.geometry.specs.Words.{pin_word, FitsPin}
use Rattle.geometry.specs.declared.words.PinWord.{PinWord}
use Rattle.geometry.specs.declared.words.Phase.TheVariants.{Free, Open, Closed, Victim, Erasing}
use Rattle.flash_rule.specs.declared.facts.Name.{Name}
use Rattle.flash_rule.specs.declared.facts.Name.TheVariants.{Pass, Broom}
use Rattle.flash_rule.specs.declared.facts.Role.{Role}
use Rattle.flash_rule.specs.declared.facts.Role.TheVariants.{Dealer, Player, Note}
use Rattle.flash_rule.specs.declared.facts.Owned.{Owned}
use Rattle.flash_rule.specs.declared.facts.Pin.{Pin}
use Rattle.flash_rule.specs.declared.facts.Pin.TheVariants.{Clear, Candidate, Accepted, Stray}
use Rattle.flash_rule.specs.declared.facts.Work.{Work}
use Rattle.flash_rule.specs.declared.facts.Source.{Source}
use Rattle.flash_rule.specs.declared.facts.Inspection.{Inspection}
use Rattle.flash_rule.specs.declared.facts.Cycle.{Cycle}
use Rattle.flash_rule.specs.declared.carried.Carried.{Carried}
use Rattle.flash_rule.specs.declared.view.View.{View}
use Rattle.flash_rule.specs.Views.{total, is_pass, is_player, is_live_role, may_own, weight, pins_on, owned_at, AreOfHosts, calls_of}
use Rattle.flash_rule.specs.Ceded.{LawfulCeded}
use Rattle.flash_rule.specs.World.{World, is_owned, is_nameable, is_shut, is_still, is_reclaimed, age_of, Intact, HoldsValue, IsBlank, blank_word}

-- A value has the bytes of one page
pub record IsValue (z : Numbers) (value : List ℕ) : Type 0 where
  pub long : length value ≡ WORD_BYTES * z.words
  pub bytes : (k : ℕ) → slice_index value k < 2 ^ 8

-- The sector's map word names this page: it has the sector's value and its stamp, it is written, and its block is in the generation named,
-- in use and not drained
pub record IsCurrent (z : Numbers) (g : World) (s : ℕ) (m : MapWord) : Type 0 where
  pub value : List ℕ
  pub here : held z.sectors g.history s ≡ Some value
  pub block : m.block < z.blocks
  pub same : (g.pins m.block).generation ≡ m.generation
  pub phase : is_nameable (g.pins m.block).phase ≡ true
  pub written : m.page < (g.pins m.block).written
  pub stands : HoldsValue z (g.pages m.block m.page) value
  pub whole : IsValue z value
  pub stamp : g.pages m.block m.page z.words ≡ s

-- LAWFUL MAP. A sector that no map word maps is empty after the history, and a mapped one names the page that has its value
pub record LawfulSector (z : Numbers) (g : World) (s : ℕ) : Type 0 where
  pub empty : g.map s ≡ None → held z.sectors g.history s ≡ None
  pub named : (m : MapWord) → g.map s ≡ Some m → IsCurrent z g s m

-- LAWFUL BLOCKS, seen from the block. It has as many readers as passes have an accepted or stray pin on it; pages written and generation
-- are in range, and a free block has none written; if nobody fills a page, the unwritten ones are all ones; and a block that is open,
-- victim or erasing is among the blocks of its owner
pub record LawfulBlock (z : Numbers) (g : World) (vs : List View) (b : ℕ) : Type 0 where
  pub readers : (g.pins b).readers ≡ total (pins_on b) vs
  pub written : (g.pins b).written ≤ z.pages
  pub generation : (g.pins b).generation < z.endurance
  pub free : (g.pins b).phase ≡ Free → (g.pins b).written ≡ 0
  pub rest : is_still (g.pins b).phase ≡ true → (p : ℕ) → (g.pins b).written ≤ p → p < z.pages → IsBlank z (g.pages b p)
  pub owner : is_owned (g.pins b).phase ≡ true → (v : View) × (o : Owned) × (get_elem? vs (g.owner b) ≡ some v) × (owned_at b v.owns ≡ Some o)

-- A page was programmed in its block's generation, or in an earlier one
abbrev pub IsProgrammed : PinWord → MapWord → Type 0
IsProgrammed p m = (m.generation < p.generation) ⊎ ((m.generation ≡ p.generation) × (m.page < p.written))

-- PROGRAMS, LISTED ONCE. Each entry of the player's list is a page that was programmed, and the page's one programmer is this player, by this entry
abbrev pub Programs : Numbers → World → Name → List MapWord → Type 0
Programs z g n list =
    (k : ℕ) (m : MapWord) → slice_get list k ≡ Some m
    → (m.block < z.blocks) × IsProgrammed (g.pins m.block) m × (g.programmer m.block m.page m.generation ≡ Some (n, k))

-- ERASES, LISTED ONCE. Each entry is a generation of a block that has ended or is being ended, and its one eraser is this player, by this
-- entry
abbrev pub Erases : Numbers → World → Name → List Cycle → Type 0
Erases z g n list =
    (k : ℕ) (c : Cycle) → slice_get list k ≡ Some c
    → (c.block < z.blocks) × (2 * c.generation < age_of (g.pins c.block)) × (g.eraser c.block c.generation ≡ Some (n, k))

-- LAWFUL PINS. The block of an accepted pin is intact in the pinned generation, and the pinned page is written and has the value
pub record IsAccepted (z : Numbers) (g : World) (m : MapWord) (value : List ℕ) : Type 0 where
  pub block : m.block < z.blocks
  pub intact : Intact (g.pins m.block) m.generation
  pub written : m.page < (g.pins m.block).written
  pub stands : HoldsValue z (g.pages m.block m.page) value
  pub whole : IsValue z value

-- The page that a look named. Its block is in no earlier generation, and isn't free in that one. While the block is intact in it, the page
-- is written and has the value; after that nothing is said of the page. The age that the seat knows of the block is twice that generation
pub record IsCandidate (z : Numbers) (g : World) (known : List ℕ) (m : MapWord) (value : List ℕ) : Type 0 where
  pub block : m.block < z.blocks
  pub reached : m.generation ≤ (g.pins m.block).generation
  pub taken : (g.pins m.block).generation ≡ m.generation → ¬ ((g.pins m.block).phase ≡ Free)
  pub page : Intact (g.pins m.block) m.generation → (m.page < (g.pins m.block).written) × HoldsValue z (g.pages m.block m.page) value
  pub whole : IsValue z value
  pub age : slice_index known m.block ≡ 2 * m.generation

-- What holds of the page that a pass reads: nothing if it reads none, and for a stray pin that its block is one of the device
abbrev pub LawfulPin : Numbers → World → List ℕ → Pin → Type 0
LawfulPin z g known Clear = Unit {0}
LawfulPin z g known (Candidate m value) = IsCandidate z g known m value
LawfulPin z g known (Accepted m value) = IsAccepted z g m value
LawfulPin z g known (Stray b) = b < z.blocks

-- A player with this number has been dealt
abbrev pub IsDealt : World → Name → Type 0
IsDealt g (Pass t) = t < g.passes
IsDealt g (Broom i) = i < g.brooms

-- NOTES. The player of the copies has been dealt, and is not the seat's own. What it had seen, by the copy, begins the history; the copied
-- lists begin that player's lists, so no entry is missing from them; and each of their entries is that player's, by its index
pub record LawfulCopy (z : Numbers) (g : World) (role : Role) (c : Carried) : Type 0 where
  pub dealt : IsDealt g c.of
  pub other : ¬ (role ≡ Player c.of)
  pub seen : Begins c.seen g.history
  pub programmed : Begins c.programs (g.programs c.of)
  pub erased : Begins c.erases (g.erases c.of)
  pub programs : Programs z g c.of c.programs
  pub erases : Erases z g c.of c.erases

-- LATER COPIES. The lists of a player that were copied later begin with those that were copied earlier
pub record Grown (earlier later : Carried) : Type 0 where
  pub programs : Begins earlier.programs later.programs
  pub erases : Begins earlier.erases later.erases

-- The block was closed in this generation, and has not been opened again in it
abbrev pub WasShut : ℕ → PinWord → Type 0
WasShut generation p = (generation < p.generation) ⊎ ((p.generation ≡ generation) × (is_shut p.phase ≡ true))

-- LOADED. Each block of the device whose state was closed when it was loaded was closed in that generation
abbrev pub LawfulLoads : Numbers → World → List (ℕ × ℕ) → Type 0
LawfulLoads z g loaded =
    (k b : ℕ) (p : PinWord) → slice_get loaded k ≡ Some (b, pin_word p) → FitsPin p → p.phase ≡ Closed → b < z.blocks → WasShut p.generation (g.pins b)

-- INSPECTED. The block was closed in the generation in which it was inspected. As long as that lasts, no sector that was passed has a page in it
pub record LawfulInspection (z : Numbers) (g : World) (x : Inspection) : Type 0 where
  pub low : x.block < z.blocks
  pub shut : WasShut x.generation (g.pins x.block)
  pub dead : (g.pins x.block).generation ≡ x.generation → (s p : ℕ) → s < x.sectors → s < z.sectors
      → ¬ (g.map s ≡ Some (record { generation = x.generation; block = x.block; page = p }))

-- At most one of these blocks is being drained or erased
abbrev pub ReclaimsOne : List Owned → Type 0
ReclaimsOne owns =
    (b c : ℕ) (o e : Owned) → owned_at b owns ≡ Some o → owned_at c owns ≡ Some e → is_reclaimed o.phase ≡ true → is_reclaimed e.phase ≡ true → b ≡ c

-- What holds of a view alone, whatever the table is: it has the device's numbers; a pass knows an age for each block, and owns only open
-- blocks; only a pass has a pin, and only a player has work, a source, and lists of programs and erases; a role that may not own blocks owns
-- none; at most one of its blocks is being drained or erased; and a player with a guest also has its own badge
pub record LawfulKind (z : Numbers) (v : View) : Type 0 where
  pub numbers : is_live_role v.role ≡ true → v.numbers ≡ z
  pub known : is_pass v.role ≡ true → length v.known ≡ z.blocks
  pub opens : is_pass v.role ≡ true → (b : ℕ) (o : Owned) → owned_at b v.owns ≡ Some o → o.phase ≡ Open
  pub unpinned : is_pass v.role ≡ false → v.pin ≡ Clear
  pub idle : is_player v.role ≡ false → (v.work ≡ None) × (v.source ≡ None) × (v.programs ≡ []) × (v.erases ≡ [])
  pub owns_none : may_own v.role ≡ false → v.owns ≡ []
  pub reclaims : ReclaimsOne v.owns
  pub host : (n m : Name) → v.role ≡ Player n → v.guest ≡ Some m → v.whole ≡ true

-- What a view knows: it has seen a beginning of the history, its pin is lawful, no block is younger than known, and its lists, its inspection and
-- its copies are lawful. If both the copies that it had before and those that it has are of one player, the latter begin with the former; and if that
-- player's badge, or the seat's own, is on a note with copies of that player, those begin with the seat's
pub record LawfulKnowledge (z : Numbers) (g : World) (v : View) : Type 0 where
  pub seen : Begins v.seen g.history
  pub pin : LawfulPin z g v.known v.pin
  pub known : (b : ℕ) → b < z.blocks → slice_index v.known b ≤ age_of (g.pins b)
  pub programs : (n : Name) → v.role ≡ Player n → Programs z g n v.programs
  pub erases : (n : Name) → v.role ≡ Player n → Erases z g n v.erases
  pub loads : LawfulLoads z g v.loaded
  pub inspection : (x : Inspection) → v.inspection ≡ Some x → LawfulInspection z g x
  pub copy : (c : Carried) → v.copy ≡ Some c → LawfulCopy z g v.role c
  pub older : (o c : Carried) → v.older ≡ Some o → v.copy ≡ Some c → o.of ≡ c.of → Grown o c
  pub out : (n : Name) (c d : Carried) → (n ≡ c.of) ⊎ (v.role ≡ Player n) → v.copy ≡ Some c → g.carries n ≡ Some d → c.of ≡ d.of → Grown c d

-- The page that the seat is filling, which isn't counted yet
pub record IsFilling (doing : Option Work) (b p : ℕ) : Type 0 where
  pub work : Work
  pub is : doing ≡ Some work
  pub block : work.page.block ≡ b
  pub page : work.page.page ≡ p

-- LAWFUL BLOCKS AND DEAD PAGES, seen from the owner. The block is the seat's alone, in the phase and generation and with the pages written
-- that the seat knows. Pages of an open block that are neither written nor being filled are all ones; no map word names a cleared page of a
-- victim; the words of an erasing block that were wiped are all ones
pub record LawfulOwned (z : Numbers) (g : World) (id : ℕ) (doing : Option Work) (cleared wiped : ℕ) (b : ℕ) (o : Owned) : Type 0 where
  pub block : o.block ≡ b
  pub low : b < z.blocks
  pub owner : g.owner b ≡ id
  pub owned : is_owned o.phase ≡ true
  pub phase : (g.pins b).phase ≡ o.phase
  pub generation : (g.pins b).generation ≡ o.generation
  pub written : (g.pins b).written ≡ o.written
  pub rest : o.phase ≡ Open → (p : ℕ) → o.written ≤ p → p < z.pages → ¬ IsFilling doing b p → IsBlank z (g.pages b p)
  pub dead : o.phase ≡ Victim → (p s : ℕ) → p < cleared → s < z.sectors → ¬ (g.map s ≡ Some (record { generation = o.generation; block = b; page = p }))
  pub clean : o.phase ≡ Erasing → (p i : ℕ) → p < z.pages → i ≤ z.words → p * (z.words + 1) + i < wiped → g.pages b p i ≡ blank_word

-- WORK. Its page is of an open block of its own in its generation. It is counted, with all its words, or it is the first unwritten page.
-- Its words are in the page
pub record LawfulWork (z : Numbers) (g : World) (owns : List Owned) (w : Work) : Type 0 where
  pub entry : Owned
  pub own : owned_at w.page.block owns ≡ Some entry
  pub opened : entry.phase ≡ Open
  pub generation : entry.generation ≡ w.page.generation
  pub page : w.page.page < z.pages
  pub counted : (w.page.page < entry.written) ⊎ (w.page.page ≡ entry.written)
  pub short : length w.words ≤ z.words + 1
  pub full : w.page.page < entry.written → length w.words ≡ z.words + 1
  pub stands : (i : ℕ) → i < length w.words → g.pages w.page.block w.page.page i ≡ slice_index w.words i

-- SOURCE. It is the first uncleared page of a victim of its own in its generation, written, with this stamp and this value
pub record LawfulSource (z : Numbers) (g : World) (owns : List Owned) (cleared : ℕ) (x : Source) : Type 0 where
  pub entry : Owned
  pub own : owned_at x.page.block owns ≡ Some entry
  pub victim : entry.phase ≡ Victim
  pub generation : entry.generation ≡ x.page.generation
  pub page : x.page.page ≡ cleared
  pub written : x.page.page < entry.written
  pub stamp : g.pages x.page.block x.page.page z.words ≡ x.stamp
  pub value : (value : List ℕ) → x.value ≡ Some value → HoldsValue z (g.pages x.page.block x.page.page) value × IsValue z value

-- What belongs to one seat alone: its name; its calls, which are all of its pass in the history, and which it has seen; its lists of what
-- it programmed and erased, which are all that its player did; its blocks, its work and its source; and its badges. A note has the copies
-- that its badge has with it, and a badge at home has none. The dealer is seat 0, and counts the passes and brooms that were dealt
pub record LawfulHolding (z : Numbers) (g : World) (id : ℕ) (v : View) : Type 0 where
  pub name : (n : Name) → v.role ≡ Player n → (g.seat n ≡ id) × IsDealt g n
  pub calls : (t : ℕ) → v.role ≡ Player (Pass t) → (calls_of t g.history ≡ v.mine) × (calls_of t v.seen ≡ v.mine)
  pub lists : (n : Name) → v.role ≡ Player n → (g.programs n ≡ v.programs) × (g.erases n ≡ v.erases)
  pub owned : (b : ℕ) (o : Owned) → owned_at b v.owns ≡ Some o → LawfulOwned z g id v.work v.cleared v.wiped b o
  pub work : (w : Work) → v.work ≡ Some w → LawfulWork z g v.owns w
  pub source : (x : Source) → v.source ≡ Some x → LawfulSource z g v.owns v.cleared x
  pub whole : v.whole ≡ true → (n : Name) → v.role ≡ Player n → g.badge n ≡ id
  pub guest : (n : Name) → v.guest ≡ Some n → (g.badge n ≡ id) × IsDealt g n
  pub note : (n : Name) → v.role ≡ Note → v.guest ≡ Some n → g.carries n ≡ v.copy
  pub home : (n : Name) → v.role ≡ Player n → v.whole ≡ true → g.carries n ≡ None
  pub dealer : v.role ≡ Dealer → (id ≡ 0) × (v.passes ≡ g.passes) × (v.brooms ≡ g.brooms)

-- What holds of a seat: of its kind, of what it knows, and of what belongs to it alone
pub record LawfulView (z : Numbers) (g : World) (id : ℕ) (v : View) : Type 0 where
  pub kind : LawfulKind z v
  pub knowledge : LawfulKnowledge z g v
  pub holding : LawfulHolding z g id v

-- The rule: the numbers are within their limits; the sectors, the blocks, the seats and the blocks given up are lawful; each call of the
-- history is of a host, and a pass that wasn't dealt yet has no calls; the seats count for as many passes as there are hosts, and no more
-- passes than hosts were dealt
pub record Lawful (z : Numbers) (g : World) (vs : List View) : Type 0 where
  pub limits : IsWithinLimits z
  pub sectors : (s : ℕ) → s < z.sectors → LawfulSector z g s
  pub callers : AreOfHosts z g.history
  pub blocks : (b : ℕ) → b < z.blocks → LawfulBlock z g vs b
  pub views : (id : ℕ) (v : View) → get_elem? vs id ≡ some v → LawfulView z g id v
  pub strangers : (t : ℕ) → g.passes ≤ t → calls_of t g.history ≡ []
  pub seats : total (weight z) vs ≡ z.hosts
  pub dealt : g.passes ≤ z.hosts
  pub ceded : LawfulCeded z g.pins vs
