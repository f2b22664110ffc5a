-- How a broom's drained blocks go into the queue and come back from it, and what a turn records.
use Rattle.std.specs.Prelude.{◌≡◌, ℕ, ◌<◌, ◌⊎◌, Option, None, Some, IfSome}
use Rattle.erase_queue.specs.declared.pass.QueuePass.{QueuePass}
use Rattle.erase_queue.specs.declared.queue.EraseQueue.{EraseQueue}
use Rattle.erase_queue.specs.Queue.{limit_of, IsPassOf, WasPut, WasFull, WasTaken, WasEmpty}
use Rattle.broom.specs.declared.broom.Broom.{Broom}
use Rattle.broom.specs.declared.answer.Drain.{Drain}
use Rattle.broom.specs.declared.answer.Drain.TheVariants as drain
use Rattle.broom.specs.declared.answer.Erase.{Erase}
use Rattle.broom.specs.declared.answer.Erase.TheVariants as erase
use Rattle.broom.specs.declared.turns.Choice.{Choice}
use Rattle.broom.specs.declared.turns.Choice.TheVariants as choice
use Rattle.broom.specs.Dead.{DeadTold}
use Rattle.broom.specs.Told.{DrainTold, NextTold, SurveyLeft, Unmarks}
use Rattle.broom.specs.Erasing.{EraseTold}

-- a broom's place at the queue
abbrev pub place_of : Broom → QueuePass
place_of b = b.place

-- the drained block that it has set aside, if there is one
abbrev pub aside_of : Broom → Option ℕ
aside_of b = b.aside

-- The broom's place is one at this queue, and what it has set aside is one of the queue's numbers
pub record IsQueued (q : EraseQueue) (b : Broom) : Type 0 where
  pub place : IsPassOf q (place_of b)
  pub aside : IfSome (aside_of b) (λ block. block < limit_of q)

-- Nothing was put or taken, and what is set aside is unchanged
pub record HandsNothing (before after : Broom) : Type 0 where
  pub place : place_of after ≡ place_of before
  pub aside : aside_of after ≡ aside_of before

-- the block of this result, if one was drained, is one of this many
abbrev pub IsBelow : ℕ → Drain → Type 0
IsBelow blocks (drain.Drained block copied) = block < blocks
IsBelow blocks drain.NothingToGain = Unit {0}
IsBelow blocks drain.NoSpare = Unit {0}
IsBelow blocks drain.Lost = Unit {0}
IsBelow blocks drain.QueueFull = Unit {0}

-- only the broom's place and what it has set aside have changed
abbrev pub IsElse : Broom → Broom → Type 0
IsElse before after = after ≡ record before { place = place_of after; aside = aside_of after }

-- A drained block was passed on: its number was put, or the queue was full and it is set aside
pub record HandedOn (limit : ℕ) (before : Broom) (block : ℕ) (after : Broom) : Type 0 where
  pub rest : IsElse before after
  pub went : (WasPut (place_of before) block (place_of after) × (aside_of after ≡ None))
      ⊎ (WasFull limit (place_of before) (place_of after) × (aside_of after ≡ Some block))

-- Nothing is set aside: nothing was before, or it was put
pub record Relieved (before after : Broom) : Type 0 where
  pub rest : IsElse before after
  pub none : aside_of after ≡ None
  pub put : ((aside_of before ≡ None) × (place_of after ≡ place_of before))
      ⊎ ((block : ℕ) × (aside_of before ≡ Some block) × WasPut (place_of before) block (place_of after))

-- A number is set aside, and the queue was full
pub record Stuck (limit : ℕ) (before after : Broom) : Type 0 where
  pub rest : IsElse before after
  pub block : ℕ
  pub aside : aside_of before ≡ Some block
  pub still : aside_of after ≡ Some block
  pub full : WasFull limit (place_of before) (place_of after)

-- A number was fetched: the one that was set aside, or if there was none the queue's first
pub record Fetched (before : Broom) (block : ℕ) (after : Broom) : Type 0 where
  pub rest : IsElse before after
  pub none : aside_of after ≡ None
  pub from : ((aside_of before ≡ Some block) × (place_of after ≡ place_of before))
      ⊎ ((aside_of before ≡ None) × WasTaken (place_of before) block (place_of after))

-- Nothing is set aside, and the queue was empty
pub record FoundNone (before after : Broom) : Type 0 where
  pub rest : IsElse before after
  pub aside : aside_of before ≡ None
  pub still : aside_of after ≡ None
  pub empty : WasEmpty (place_of before) (place_of after)

-- What was set aside was put first. Then the broom made a drain of this kind with this result, and did nothing else
pub record DrainedAfterPut (Told : Broom → Drain → Broom → Type 0) (before : Broom) (answer : Drain) (after : Broom) : Type 0 where
  pub relieved : Broom
  pub first : Relieved before relieved
  pub drain : Told relieved answer after
  pub apart : HandsNothing relieved after

-- What was set aside was put first. Then the broom drained this block, and passed it on
pub record DrainedAndHandedOn (Told : Broom → Drain → Broom → Type 0) (limit : ℕ) (before : Broom) (block copied : ℕ) (after : Broom) : Type 0 where
  pub drained : Broom
  pub drain : DrainedAfterPut Told before (drain.Drained block copied) drained
  pub handed : HandedOn limit drained block after

-- what each result of a turn with a drain of this kind means
abbrev pub TurnTold : (Broom → Drain → Broom → Type 0) → ℕ → Broom → Drain → Broom → Type 0
TurnTold Told limit before (drain.Drained block copied) after = DrainedAndHandedOn Told limit before block copied after
TurnTold Told limit before drain.NothingToGain after = DrainedAfterPut Told before drain.NothingToGain after
TurnTold Told limit before drain.NoSpare after = DrainedAfterPut Told before drain.NoSpare after
TurnTold Told limit before drain.Lost after = DrainedAfterPut Told before drain.Lost after
TurnTold Told limit before drain.QueueFull after = Stuck limit before after

-- what each result of a drain means, by the choice of its block; one by a new survey leaves that survey
abbrev pub DrainedBy : Choice → Broom → Drain → Broom → Type 0
DrainedBy choice.Survey before answer after = DrainTold before answer after × SurveyLeft before answer after
DrainedBy choice.Next before answer after = NextTold before answer after
DrainedBy choice.Dead before answer after = DeadTold before answer after

-- what each result of a turn that drains means
abbrev pub DrainOneTold : ℕ → Broom → Drain → Broom → Type 0
DrainOneTold = TurnTold (DrainedBy choice.Survey)

-- what each result of a turn that drains by the last survey means
abbrev pub DrainNextOneTold : ℕ → Broom → Drain → Broom → Type 0
DrainNextOneTold = TurnTold (DrainedBy choice.Next)

-- what each result of a turn that drains a block without live pages means
abbrev pub DrainDeadOneTold : ℕ → Broom → Drain → Broom → Type 0
DrainDeadOneTold = TurnTold (DrainedBy choice.Dead)

-- A block was fetched. Then the broom made an erase of it with this result, after which the block isn't marked any more, and did nothing
-- else
pub record FetchedAndErased (before : Broom) (block : ℕ) (answer : Erase) (after : Broom) : Type 0 where
  pub fetched : Broom
  pub first : Fetched before block fetched
  pub erase : EraseTold fetched block answer after
  pub marks : Unmarks fetched block after
  pub apart : HandsNothing fetched after

-- A block was fetched and not erased, since it had readers, and was passed on again
pub record FetchedAndHandedOn (limit : ℕ) (before after : Broom) : Type 0 where
  pub block : ℕ
  pub found : Broom
  pub erase : FetchedAndErased before block erase.Pinned found
  pub handed : HandedOn limit found block after

-- What each result of a turn that erases means
abbrev pub EraseOneTold : ℕ → Broom → Erase → Broom → Type 0
EraseOneTold limit before (erase.Erased block kept) after = (fetched : ℕ) × FetchedAndErased before fetched (erase.Erased block kept) after
EraseOneTold limit before (erase.Retired block) after = (fetched : ℕ) × FetchedAndErased before fetched (erase.Retired block) after
EraseOneTold limit before erase.Pinned after = FetchedAndHandedOn limit before after
EraseOneTold limit before erase.Stale after = (fetched : ℕ) × FetchedAndErased before fetched erase.Stale after
EraseOneTold limit before erase.QueueEmpty after = FoundNone before after

-- A broom left its place at the queue. What it had set aside was put, or the queue was full
abbrev pub LeftAt : ℕ → Broom → QueuePass → Type 0
LeftAt limit b place = ((aside_of b ≡ None) × (place ≡ place_of b))
    ⊎ ((block : ℕ) × (aside_of b ≡ Some block) × (WasPut (place_of b) block place ⊎ WasFull limit (place_of b) place))
