-- What each kind of step needs from the seat that makes it, and what it records: the change of that seat's view.
use Rattle.std.specs.Prelude.{◌≡◌, ℕ, ◌+◌, ◌*◌, ◌<◌, ◌≤◌, ◌==◌, ◌&&◌, Bool, true, false, List, [], ◌∷◌, ◌++◌, Option}
use Rattle.std.specs.Prelude.{None, Some, if◌then◌else◌, length, slice_get, slice_set, slice_index}
use Rattle.atomic_table.specs.Table.{Step, Me}
use Rattle.geometry.specs.History.{Call, Write, WriteNew, Trim, held, was, Begins}
use Rattle.geometry.specs.declared.answer.Was.{Was}
use Rattle.geometry.specs.Words.{map_word, FitsMap, pin_word, FitsPin, pin_index, page_index}
use Rattle.geometry.specs.declared.words.MapWord.{MapWord}
use Rattle.geometry.specs.declared.words.TheConstants.{UNMAPPED}
use Rattle.geometry.specs.declared.words.PinWord.{PinWord}
use Rattle.geometry.specs.declared.words.Phase.TheVariants.{Free, Open, Closed}
use Rattle.flash_rule.specs.declared.facts.Name.TheVariants.{Pass}
use Rattle.flash_rule.specs.declared.facts.Role.TheVariants.{Player}
use Rattle.flash_rule.specs.declared.facts.Owned.{Owned}
use Rattle.flash_rule.specs.declared.facts.Pin.{Pin}
use Rattle.flash_rule.specs.declared.facts.Pin.TheVariants.{Clear, Candidate, Accepted, Stray}
use Rattle.flash_rule.specs.declared.facts.Work.{Work}
use Rattle.flash_rule.specs.declared.facts.Cycle.{Cycle}
use Rattle.flash_rule.specs.declared.carried.Carried.{Carried}
use Rattle.flash_rule.specs.declared.view.View.{View}
use Rattle.flash_rule.specs.Views.{owned_at, without, with_owned, AreOfHosts, calls_of, sum_of}
use Rattle.flash_rule.specs.World.{data_word, Intact}
use Rattle.flash_rule.specs.Rule.{IsValue, Grown}

-- a seat that steps on this table: its view, and the slots that it holds, of which there are none
abbrev pub Sitter : Type 0
Sitter = Me (Unit {0}) View

-- a pass that has nothing pinned
abbrev pub is_unpinned : Pin → Bool
is_unpinned Clear = true
is_unpinned (Candidate m value) = true
is_unpinned (Accepted m value) = false
is_unpinned (Stray b) = false

-- the two lists share no entry
abbrev pub Disjoint : {X : Type 0} → List X → List X → Type 0
Disjoint {X} xs ys = (j k : ℕ) (x : X) → slice_get xs j ≡ Some x → ¬ (slice_get ys k ≡ Some x)

-- no entry is twice in the list
abbrev pub Once : {X : Type 0} → List X → Type 0
Once {X} xs = (j k : ℕ) (x : X) → slice_get xs j ≡ Some x → slice_get xs k ≡ Some x → j ≡ k

-- The copies are of another player, the history that was seen begins with the copied one, that player programmed and erased nothing that
-- this one did, and neither of them did anything twice. They begin with the copies of that player that were here before, if there were any
pub record Met (w : View) (c : Carried) : Type 0 where
  pub other : ¬ (w.role ≡ Player c.of)
  pub seen : Begins c.seen w.seen
  pub programs : Disjoint w.programs c.programs
  pub erases : Disjoint w.erases c.erases
  pub programmed_once : Once w.programs × Once c.programs
  pub erased_once : Once w.erases × Once c.erases
  pub newer : (o : Carried) → w.older ≡ Some o → o.of ≡ c.of → Grown o c

-- If the first one has copies of the second one, the second one's lists begin with them
abbrev pub GoesOnFrom : View → View → Type 0
GoesOnFrom v w = (c : Carried) → v.copy ≡ Some c → w.role ≡ Player c.of → Begins c.programs w.programs × Begins c.erases w.erases

-- LOOK. The pass sees the history of this moment, whose calls are of hosts. The word found is 0 if the sector is empty after that history;
-- otherwise it names a page with the sector's value, which is now a candidate
pub record Looked (v : View) (s n : ℕ) (w : View) : Type 0 where
  pub changed : w ≡ record v { seen = w.seen; looks = v.looks + 1; pin = w.pin; known = w.known }
  pub later : Begins v.seen w.seen
  pub callers : AreOfHosts v.numbers w.seen
  pub own : (t : ℕ) → v.role ≡ Player (Pass t) → calls_of t w.seen ≡ w.mine
  pub empty : n ≡ 0 → (held v.numbers.sectors w.seen s ≡ None) × (w.pin ≡ Clear) × (w.known ≡ v.known)
  pub named : ¬ (n ≡ 0) → (m : MapWord) × (value : List ℕ) × (n ≡ map_word m) × FitsMap m × (held v.numbers.sectors w.seen s ≡ Some value)
      × IsValue v.numbers value
      × (w.pin ≡ Candidate m value) × (w.known ≡ slice_set v.known m.block (2 * m.generation)) × (m.block < v.numbers.blocks) × (m.page < v.numbers.pages)
  pub rises : sum_of v.known ≤ sum_of w.known
  pub bounded : sum_of w.known ≤ v.numbers.blocks * (2 * v.numbers.endurance)
  pub met : (c : Carried) → v.copy ≡ Some c → Met w c

-- what a look records for a pass
abbrev pub look_told : Step (Unit {0}) → Sitter → ℕ → Sitter → Type 0
look_told st me n after = (after.1 ≡ me.1) × Looked me.0 st.word n after.0

-- PLACE. The pass sees the history of this moment followed by its call; the word that was exchanged says what the sector was before
pub record Placed (v : View) (c : Call) (s n : ℕ) (w : View) : Type 0 where
  pub changed : w ≡ record v { seen = w.seen; mine = v.mine ++ c ∷ [] }
  pub before : List Call
  pub later : Begins v.seen before
  pub now : w.seen ≡ before ++ c ∷ []
  pub callers : AreOfHosts v.numbers w.seen
  pub empty : n ≡ 0 → held v.numbers.sectors before s ≡ None
  pub written : ¬ (n ≡ 0) → (value : List ℕ) × (held v.numbers.sectors before s ≡ Some value)
  pub own : (t : ℕ) → v.role ≡ Player (Pass t) → calls_of t w.seen ≡ w.mine

-- The pass has filled and counted a page with this value and this sector's stamp
pub record CanPlace (v : View) (s : ℕ) (m : MapWord) (value : List ℕ) : Type 0 where
  pub work : Work
  pub entry : Owned
  pub is : v.work ≡ Some work
  pub page : work.page ≡ m
  pub own : owned_at m.block v.owns ≡ Some entry
  pub counted : m.page < entry.written
  pub whole : IsValue v.numbers value
  pub words : (i : ℕ) → i < v.numbers.words → slice_index work.words i ≡ data_word value i
  pub stamp : slice_index work.words v.numbers.words ≡ s

-- what the exchange of a map word by a write records for a pass
abbrev pub write_told : Step (Unit {0}) → Sitter → ℕ → Sitter → Type 0
write_told st me n after =
    (after.1 ≡ me.1)
    × ((t : ℕ) (m : MapWord) (value : List ℕ) → me.0.role ≡ Player (Pass t) → st.first ≡ map_word m → FitsMap m → CanPlace me.0 st.word m value
    → Placed me.0 (Write t st.word value) st.word n after.0)

-- what the exchange of a map word by a write of an empty sector records for a pass: the word expected is that of no page
abbrev pub new_told : Step (Unit {0}) → Sitter → ℕ → Sitter → Type 0
new_told st me n after =
    (after.1 ≡ me.1)
    × ((t : ℕ) (m : MapWord) (value : List ℕ) → me.0.role ≡ Player (Pass t) → st.first ≡ UNMAPPED → st.second ≡ map_word m → FitsMap m
    → CanPlace me.0 st.word m value
    → Placed me.0 (WriteNew t st.word value) st.word n after.0)

-- what the exchange of a map word by a trim records for a pass
abbrev pub trim_told : Step (Unit {0}) → Sitter → ℕ → Sitter → Type 0
trim_told st me n after = (after.1 ≡ me.1) × ((t : ℕ) → me.0.role ≡ Player (Pass t) → Placed me.0 (Trim t st.word) st.word n after.0)

-- TAKE. A block found free wasn't the seat's, and now it is, open and with nothing written; any other block is unchanged. Its generation is
-- less than the endurance
pub record Took (v : View) (b n : ℕ) (w : View) : Type 0 where
  pub state : PinWord
  pub fits : FitsPin state
  pub young : state.generation < v.numbers.endurance
  pub found : n ≡ pin_word state
  pub fresh : state.phase ≡ Free → owned_at b v.owns ≡ None
  pub free : state.phase ≡ Free
      → w ≡ record v { taken = v.taken + 1; owns = with_owned (record { block = b; phase = Open; generation = state.generation; written = 0 }) v.owns }
  pub denied : ¬ (state.phase ≡ Free) → w ≡ record v { denied = v.denied ++ b ∷ [] }

-- what a take records for a pass or a broom
abbrev pub take_told : Step (Unit {0}) → Sitter → ℕ → Sitter → Type 0
take_told st me n after = (after.1 ≡ me.1) × ((b : ℕ) → b < me.0.numbers.blocks → st.word ≡ pin_index me.0.numbers b → Took me.0 b n after.0)

-- TEST. A block found free is left as it is, and nothing is recorded; any other block was found taken, just as by a take
pub record Tested (v : View) (b n : ℕ) (w : View) : Type 0 where
  pub state : PinWord
  pub fits : FitsPin state
  pub found : n ≡ pin_word state
  pub free : state.phase ≡ Free → w ≡ v
  pub denied : ¬ (state.phase ≡ Free) → w ≡ record v { denied = v.denied ++ b ∷ [] }

-- what loading a pin word before a take records for a pass or a broom
abbrev pub test_told : Step (Unit {0}) → Sitter → ℕ → Sitter → Type 0
test_told st me n after = (after.1 ≡ me.1) × ((b : ℕ) → b < me.0.numbers.blocks → st.word ≡ pin_index me.0.numbers b → Tested me.0 b n after.0)

-- the first unwritten page of an owned block, in its generation
abbrev pub next_page : Owned → MapWord
next_page o = record { generation = o.generation; block = o.block; page = o.written }

-- the words put into that page so far
abbrev pub words_in : Option Work → Owned → List ℕ
words_in None o = []
words_in (Some w) o = if w.page.block == o.block && w.page.page == (next_page o).page then w.words else []

-- The work, if there is one, is counted, unless it is a page of this block
abbrev pub SettledBut : View → ℕ → Type 0
SettledBut v b = (w : Work) (e : Owned) → v.work ≡ Some w → owned_at w.page.block v.owns ≡ Some e → ¬ (w.page.block ≡ b) → w.page.page < e.written

-- The work, if there is one, is counted
abbrev pub IsSettled : View → Type 0
IsSettled v = (w : Work) (e : Owned) → v.work ≡ Some w → owned_at w.page.block v.owns ≡ Some e → w.page.page < e.written

-- PUT WORD. The next word of the first unwritten page of an open block of its own
pub record CanPut (v : View) (o : Owned) : Type 0 where
  pub own : owned_at o.block v.owns ≡ Some o
  pub opened : o.phase ≡ Open
  pub room : o.written < v.numbers.pages
  pub short : length (words_in v.work o) ≤ v.numbers.words
  pub settled : SettledBut v o.block

-- what storing a word of its next page records for a seat
abbrev pub put_told : Step (Unit {0}) → Sitter → ℕ → Sitter → Type 0
put_told st me n after =
    (after.1 ≡ me.1)
    × ((o : Owned) → CanPut me.0 o → st.word ≡ page_index me.0.numbers o.block (next_page o).page + length (words_in me.0.work o)
    → after.0 ≡ record me.0 { work = Some (record { page = next_page o; words = words_in me.0.work o ++ st.first ∷ [] }) })

-- The copies are of another player, which programmed no page that this one did and has not erased this page's block since its generation
-- began; and neither of them programmed a page twice. They begin with the copies of that player that were here before, if there were any
pub record Spared (v : View) (m : MapWord) (c : Carried) : Type 0 where
  pub other : ¬ (v.role ≡ Player c.of)
  pub programs : Disjoint v.programs c.programs
  pub programmed_once : Once v.programs × Once c.programs
  pub erases : (k : ℕ) (x : Cycle) → slice_get c.erases k ≡ Some x → x.block ≡ m.block → x.generation < m.generation
  pub newer : (o : Carried) → v.older ≡ Some o → o.of ≡ c.of → Grown o c

-- GET WORD. A word of an accepted pin's page is the value's, and nobody has erased the page's block; the view stays
abbrev pub get_told : Step (Unit {0}) → Sitter → ℕ → Sitter → Type 0
get_told st me n after =
    (after ≡ me)
    × ((m : MapWord) (value : List ℕ) (i : ℕ) → me.0.pin ≡ Accepted m value → i < me.0.numbers.words
    → st.word ≡ page_index me.0.numbers m.block m.page + i → n ≡ data_word value i)
    × ((m : MapWord) (value : List ℕ) (c : Carried) → me.0.pin ≡ Accepted m value → me.0.copy ≡ Some c → Spared me.0 m c)

-- COUNT. The page that was filled is programmed: the block has one page more written
pub record CanCount (v : View) (o : Owned) (w : Work) : Type 0 where
  pub own : owned_at o.block v.owns ≡ Some o
  pub opened : o.phase ≡ Open
  pub is : v.work ≡ Some w
  pub page : w.page ≡ next_page o
  pub full : length w.words ≡ v.numbers.words + 1

-- what a count records for a seat
abbrev pub count_told : Step (Unit {0}) → Sitter → ℕ → Sitter → Type 0
count_told st me n after =
    (after.1 ≡ me.1)
    × ((o : Owned) (w : Work) → CanCount me.0 o w → st.word ≡ pin_index me.0.numbers o.block
    → after.0 ≡ record me.0 { programs = me.0.programs ++ w.page ∷ []; owns = with_owned (record o { written = o.written + 1 }) me.0.owns })

-- CLOSE. The block has no owner from now on, and is closed with these pages written; nothing uncounted is left
pub record CanClose (v : View) (o : Owned) : Type 0 where
  pub own : owned_at o.block v.owns ≡ Some o
  pub opened : o.phase ≡ Open
  pub settled : IsSettled v

-- what a close records for a seat
abbrev pub close_told : Step (Unit {0}) → Sitter → ℕ → Sitter → Type 0
close_told st me n after =
    (after.1 ≡ me.1)
    × ((o : Owned) → CanClose me.0 o → st.word ≡ pin_index me.0.numbers o.block
    → after.0 ≡ record me.0 { owns = without o.block me.0.owns; work = None; ceded = me.0.ceded ++ record o { phase = Closed } ∷ [] })

-- PIN. The candidate is accepted if the block is intact in its generation; otherwise the pin is stray. The block's age is known
pub record Pinned (v : View) (m : MapWord) (value : List ℕ) (n : ℕ) (w : View) : Type 0 where
  pub state : PinWord
  pub fits : FitsPin state
  pub found : n ≡ pin_word state
  pub changed : w ≡ record v { pin = w.pin; known = w.known }
  pub accepted : Intact state m.generation → (w.pin ≡ Accepted m value) × (w.known ≡ v.known)
  pub stray : ¬ Intact state m.generation → (w.pin ≡ Stray m.block) × (sum_of v.known < sum_of w.known)
  pub rises : sum_of v.known ≤ sum_of w.known
  pub bounded : sum_of w.known ≤ v.numbers.blocks * (2 * v.numbers.endurance)

-- what a pin records for a pass
abbrev pub pin_told : Step (Unit {0}) → Sitter → ℕ → Sitter → Type 0
pin_told st me n after =
    (after.1 ≡ me.1) × ((m : MapWord) (value : List ℕ) → me.0.pin ≡ Candidate m value → st.word ≡ pin_index me.0.numbers m.block
    → Pinned me.0 m value n after.0)

-- the block that a pin is on
abbrev pub IsOn : Pin → ℕ → Type 0
IsOn Clear b = ⊥
IsOn (Candidate m value) b = ⊥
IsOn (Accepted m value) b = m.block ≡ b
IsOn (Stray c) b = c ≡ b

-- UNPIN. An accepted or stray pin is given back
abbrev pub unpin_told : Step (Unit {0}) → Sitter → ℕ → Sitter → Type 0
unpin_told st me n after = (after.1 ≡ me.1) × ((b : ℕ) → IsOn me.0.pin b → st.word ≡ pin_index me.0.numbers b → after.0 ≡ record me.0 { pin = Clear })

-- CALL. The pass sees a history that begins with all that it had seen, followed by its call; what is returned is what the sector was before
-- it
pub record Called (v : View) (call : Call) (s : ℕ) (answer : Was) (w : View) : Type 0 where
  pub changed : w ≡ record v { seen = w.seen; mine = v.mine ++ call ∷ [] }
  pub before : List Call
  pub later : Begins v.seen before
  pub now : w.seen ≡ before ++ call ∷ []
  pub callers : AreOfHosts v.numbers w.seen
  pub answered : answer ≡ was v.numbers.sectors before s
  pub own : (t : ℕ) → v.role ≡ Player (Pass t) → calls_of t w.seen ≡ w.mine
