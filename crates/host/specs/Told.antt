-- What the calls of a host record in what its pass knows, before and after.
use Rattle.std.specs.Prelude.{◌≡◌, ℕ, ◌+◌, ◌*◌, ◌<◌, ◌≤◌, List, [], ◌∷◌, ◌++◌, Option, None, Some, Result, Ok, Err, Bool, MatchBool, slice_get}
use Rattle.std.specs.List.{range_with_len}
use Rattle.geometry.specs.History.{Call, Write, WriteNew, was as was_at, Begins}
use Rattle.geometry.specs.declared.answer.Was.{Was}
use Rattle.geometry.specs.declared.answer.Was.TheVariants as was
use Rattle.geometry.specs.declared.words.MapWord.{MapWord}
use Rattle.geometry.specs.declared.words.Phase.TheVariants.{Open, Closed}
use Rattle.flash_rule.specs.declared.facts.Cycle.{Cycle}
use Rattle.flash_rule.specs.declared.facts.Owned.{Owned}
use Rattle.flash_rule.specs.declared.facts.Pin.TheVariants.{Clear, Candidate}
use Rattle.flash_rule.specs.declared.view.View.{View}
use Rattle.flash_rule.specs.Seats.{carried}
use Rattle.flash_rule.specs.Views.{sum_of}
use Rattle.flash_rule.specs.Plays.{Disjoint, Once, GoesOnFrom, next_page}
use Rattle.host.specs.declared.writing_new.NewFault.{NewFault}
use Rattle.host.specs.declared.writing_new.NewFault.TheVariants as fault
use Rattle.flash_table.specs.Steps.{WasAccepted}

-- A pin that came too late was removed: the ages that the pass knows have risen, within their bound
pub record CameLate (v w : View) : Type 0 where
  pub changed : w ≡ record v { pin = Clear; known = w.known }
  pub rises : sum_of v.known < sum_of w.known
  pub bounded : sum_of w.known ≤ v.numbers.blocks * (2 * v.numbers.endurance)

-- what a pin of the candidate records, by its result
abbrev pub PinnedInTime : View → MapWord → Bool → View → Type 0
PinnedInTime v page result w = (value : List ℕ) → v.pin ≡ Candidate page value → MatchBool result (WasAccepted v page value w) (CameLate v w)

-- The pass has looked this many times, at least once. After each look but the last one a block was found to be older than the pass knew; so
-- the ages that it knows have risen by at least one for each, and since they are bounded, so is the number of looks
pub record Searched (v : View) (tries : ℕ) (w : View) : Type 0 where
  pub changed : w ≡ record v { seen = w.seen; looks = v.looks + tries; pin = w.pin; known = w.known }
  pub later : Begins v.seen w.seen
  pub looked : 1 ≤ tries
  pub paid : tries + sum_of v.known ≤ sum_of w.known + 1
  pub bounded : sum_of w.known ≤ v.numbers.blocks * (2 * v.numbers.endurance)
  pub few : tries ≤ v.numbers.blocks * (2 * v.numbers.endurance) + 1

-- A write that has made its call, of either kind: the pass sees a history that begins with all that it had seen, followed by this call
-- alone, and the result is what the sector was before it. One page was programmed, the next one of the block that was open, or the first
-- one of a block that was taken, the lowest that was free: the blocks below it were tried in order and found taken. The block stays open as
-- long as a page is left, and then it is closed and given up as full
pub record Programmed (v : View) (call : Call) (s : ℕ) (answer : Was) (w : View) : Type 0 where
  pub changed : w ≡ record v {
    seen = w.seen;
    mine = v.mine ++ call ∷ [];
    programs = w.programs;
    owns = w.owns;
    work = w.work;
    taken = w.taken;
    denied = w.denied;
    ceded = w.ceded;
  }
  pub before : List Call
  pub later : Begins v.seen before
  pub now : w.seen ≡ before ++ call ∷ []
  pub answered : answer ≡ was_at v.numbers.sectors before s
  pub page : MapWord
  pub within : (page.block < v.numbers.blocks) × (page.page < v.numbers.pages)
  pub programmed : w.programs ≡ v.programs ++ page ∷ []
  pub continued : (o : Owned) → v.owns ≡ o ∷ [] → (page ≡ next_page o) × (w.taken ≡ v.taken) × (w.denied ≡ v.denied)
  pub begun : v.owns ≡ [] → (page.page ≡ 0) × (w.taken ≡ v.taken + 1) × (w.denied ≡ v.denied ++ range_with_len 0 page.block)
  pub kept : page.page + 1 < v.numbers.pages → w.owns ≡ record { block = page.block; phase = Open; generation = page.generation; written = page.page + 1 } ∷ []
  pub closed : page.page + 1 ≡ v.numbers.pages → w.owns ≡ []
  pub none_given_up : page.page + 1 < v.numbers.pages → w.ceded ≡ v.ceded
  pub given_up : page.page + 1 ≡ v.numbers.pages
      → w.ceded ≡ v.ceded ++ record { block = page.block; phase = Closed; generation = page.generation; written = page.page + 1 } ∷ []

-- A write that is done
abbrev pub Wrote : View → ℕ → ℕ → List ℕ → Was → View → Type 0
Wrote v t s value answer w = Programmed v (Write t s value) s answer w

-- A write of an empty sector that has made its call. If the sector was written the call changes nothing, and its page stays unnamed
abbrev pub WroteNew : View → ℕ → ℕ → List ℕ → Was → View → Type 0
WroteNew v t s value answer w = Programmed v (WriteNew t s value) s answer w

-- A write that found no block: the pass had none open, each block, in order, was found taken by this call, and nothing else has changed
pub record Refused (v : View) (w : View) : Type 0 where
  pub changed : w ≡ record v { denied = w.denied }
  pub nothing_open : v.owns ≡ []
  pub grown : w.denied ≡ v.denied ++ range_with_len 0 v.numbers.blocks

-- what a sector was, by the result of a write of an empty sector; without a block nothing is known of it
abbrev pub was_found : {X : Type 0} → Result X NewFault → Option Was
was_found (Ok _) = Some was.Empty
was_found (Err fault.Written) = Some was.Written
was_found (Err fault.NoBlock) = None

-- Two passes that met: each has seen what both had seen, and the second one what the first has; they have not both programmed the same
-- page, and neither has programmed one twice. Each has heard what the other one has done, and what it had heard of the other before begins
-- that
pub record MetTold (v v' x x' : View) : Type 0 where
  pub first : x ≡ record v { seen = x.seen; looks = v.looks + 1; pin = x.pin; known = x.known; copy = x.copy; older = v.copy }
  pub second : x' ≡ record v' { seen = x'.seen; looks = v'.looks + 1; pin = x'.pin; known = x'.known; copy = x'.copy; older = v'.copy }
  pub later : Begins v.seen x.seen
  pub brought : Begins v'.seen x.seen
  pub shared : Begins x.seen x'.seen
  pub apart : ¬ (v.role ≡ v'.role)
  pub programs : Disjoint x.programs x'.programs
  pub once : Once x.programs × Once x'.programs
  pub heard : x.copy ≡ Some (carried v')
  pub told : x'.copy ≡ Some (carried x)
  pub before : GoesOnFrom v v' × GoesOnFrom v' v

-- A pass that holds a page met another one: the other one has looked once, and has seen all that the holder had. It has erased only earlier
-- generations of the page's block, they have not both programmed the same page, and neither has programmed one twice. Each has heard what
-- the other one has done, and what it had heard of the other before begins that; nothing else of the holder has changed
pub record MetHolding (v x : View) (page : MapWord) (w y : View) : Type 0 where
  pub holder : w ≡ record v { copy = Some (carried x); older = v.copy }
  pub other : y ≡ record x { seen = y.seen; looks = x.looks + 1; pin = y.pin; known = y.known; copy = Some (carried v); older = x.copy }
  pub later : Begins x.seen y.seen
  pub brought : Begins v.seen y.seen
  pub apart : ¬ (v.role ≡ x.role)
  pub spared : (k : ℕ) (c : Cycle) → slice_get x.erases k ≡ Some c → c.block ≡ page.block → c.generation < page.generation
  pub programs : Disjoint v.programs x.programs
  pub once : Once v.programs × Once x.programs
  pub before : GoesOnFrom v x × GoesOnFrom x v
