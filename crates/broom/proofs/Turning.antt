-- What a broom keeps at its queue while it hands nothing on, and the parts of a turn, put together.
use Rattle.std.proofs.Common.{◌<◌, ℕ, Option, IfSome, sym, subst, ◌≡◌, ◌≢◌, refl}
use Rattle.erase_queue.specs.declared.queue.EraseQueue.{EraseQueue}
use Rattle.erase_queue.specs.Queue.{limit_of, IsPassOf}
use Rattle.flash_table.specs.declared.flash.Flash.{Flash}
use Rattle.broom.specs.declared.broom.Broom.{Broom}
use Rattle.broom.specs.Ready.{IsReady}
use Rattle.broom.specs.Handing.{IsElse, IsQueued, HandsNothing, HandedOn, Relieved, Fetched, FetchedAndHandedOn, DrainedAfterPut, DrainedBy, TurnTold}
use Rattle.broom.specs.Handing.{EraseOneTold}
use Rattle.broom.specs.declared.answer.Drain.TheVariants as drain
use Rattle.broom.specs.declared.answer.Drain.{Drain}
use Rattle.broom.specs.declared.answer.Erase.TheVariants as erase
use Rattle.broom.specs.declared.answer.Erase.{Erase}
use Rattle.broom.specs.Told.{Unmarks}
use Rattle.broom.specs.Erasing.{EraseTold}
use Rattle.broom.specs.declared.turns.Choice.TheVariants as choice
use Rattle.broom.specs.declared.turns.Choice.{Choice}

-- its place is one of the queue, and what is set aside is one of its numbers, as before
pub still_queued : (q : EraseQueue) (before after : Broom) → HandsNothing before after → IsQueued q before → IsQueued q after
still_queued q before after same was = record {
  place = subst (IsPassOf q) (sym same.place) was.place;
  aside = subst (λ (o : Option ℕ). IfSome o (λ block. block < limit_of q)) (sym same.aside) was.aside;
}

-- a broom that has changed in nothing else is ready as before
pub still_at : (f : Flash) (before after : Broom) → IsElse before after → IsReady f before → IsReady f after
still_at f before after rest was =
    subst (IsReady f) (sym rest)
    (record { rested = was.rested; states = was.states; counts = was.counts; closed = was.closed; marks = was.marks; ranking = was.ranking })

-- a drain doesn't use the queue
never : (c : Choice) (b x : Broom) → DrainedBy c b drain.QueueFull x → ⊥
never choice.Survey b x told = told.0
never choice.Next b x told = told
never choice.Dead b x told = told

-- a drain, whose block was handed on if it gave one
module _ (c : Choice) (limit : ℕ) (before relieved drained after : Broom) (first : Relieved before relieved) (apart : HandsNothing relieved drained) where
  kept : (answer : Drain) → DrainedBy c relieved answer drained → after ≡ drained → DrainedAfterPut (DrainedBy c) before answer after
  kept answer told same =
      subst (DrainedAfterPut (DrainedBy c) before answer) (sym same) (record { relieved = relieved; first = first; drain = told; apart = apart })

  pub turned : (answer : Drain) → DrainedBy c relieved answer drained
      → ((block copied : ℕ) → answer ≡ drain.Drained block copied → HandedOn limit drained block after)
      → (((block copied : ℕ) → answer ≢ drain.Drained block copied) → after ≡ drained) → TurnTold (DrainedBy c) limit before answer after
  turned (drain.Drained block copied) told handed none =
      record { drained = drained; drain = record { relieved = relieved; first = first; drain = told; apart = apart }; handed = handed block copied refl }
  turned drain.NothingToGain told handed none = kept drain.NothingToGain told (none (λ block copied is. cc))
  turned drain.NoSpare told handed none = kept drain.NoSpare told (none (λ block copied is. cc))
  turned drain.Lost told handed none = kept drain.Lost told (none (λ block copied is. cc))
  turned drain.QueueFull told handed none = absurd (never c relieved drained told)

-- the block that was fetched had no readers
pub erased_one : (limit : ℕ) (before fetched after : Broom) (block : ℕ) (answer : Erase) → (answer ≡ erase.Pinned → ⊥) → Fetched before block fetched
    → EraseTold fetched block answer after → Unmarks fetched block after → HandsNothing fetched after
    → EraseOneTold limit before answer after
erased_one limit before fetched after block (erase.Erased b kept) unread first told marks apart =
    (block, record { fetched = fetched; first = first; erase = told; marks = marks; apart = apart })
erased_one limit before fetched after block (erase.Retired b) unread first told marks apart =
    (block, record { fetched = fetched; first = first; erase = told; marks = marks; apart = apart })
erased_one limit before fetched after block erase.Pinned unread first told marks apart = absurd (unread refl)
erased_one limit before fetched after block erase.Stale unread first told marks apart =
    (block, record { fetched = fetched; first = first; erase = told; marks = marks; apart = apart })
erased_one limit before fetched after block erase.QueueEmpty unread first told marks apart = absurd told

-- it had readers, and was handed on
pub pinned_one : (limit : ℕ) (before fetched found after : Broom) (block : ℕ) (answer : Erase) → answer ≡ erase.Pinned → Fetched before block fetched
    → EraseTold fetched block answer found → Unmarks fetched block found → HandsNothing fetched found → HandedOn limit found block after
    → FetchedAndHandedOn limit before after
pinned_one limit before fetched found after block answer read first told marks apart handed =
    let pinned = subst (λ (a : Erase). EraseTold fetched block a found) read told in
    record { block = block; found = found; erase = record { fetched = fetched; first = first; erase = pinned; marks = marks; apart = apart }; handed = handed }
