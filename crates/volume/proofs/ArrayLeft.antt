-- Each call of a broom leaves the array of sectors to the hosts; one that hands nothing on stays at its queue.
use Rattle.broom.proofs.Turning.{still_queued}
use Rattle.broom.specs.declared.broom.Broom.{Broom}
use Rattle.broom.specs.Handing.{HandsNothing, DrainedAfterPut, DrainedBy, EraseOneTold, FetchedAndErased, IsElse, TurnTold}
use Rattle.broom.specs.Ready.{IsReady, view_of_broom}
use Rattle.volume.specs.declared.volume.Volume.{Volume}
use Rattle.volume.specs.Volume.{IsBroomReady, flash_of, queue_of}
use Rattle.std.proofs.Common.{◌≡◌, ℕ, All, true, false, List, [], ◌∷◌, ◌++◌, inl, inr, refl, sym, ap, ◌∙◌, subst, append_assoc, append-nil}
use Rattle.std.proofs.lemmas.List.Elements.{All-head, All-tail}
use Rattle.geometry.specs.History.{Call, Write, WriteNew, Trim, held, Begins}
use Rattle.geometry.specs.Words.{pin_word}
use Rattle.geometry.proofs.Histories.{Begins-refl, Begins-trans, held_by_new, held_by_trim, held_by_write}
use Rattle.geometry.specs.declared.words.PinWord.{PinWord}
use Rattle.flash_rule.specs.Views.{AreOfHosts}
use Rattle.flash_rule.specs.declared.view.View.{View}
use Rattle.broom.specs.declared.answer.Drain.TheVariants as drain
use Rattle.broom.specs.declared.answer.Drain.{Drain}
use Rattle.broom.specs.declared.answer.Erase.TheVariants as erase
use Rattle.broom.specs.declared.answer.Erase.{Erase}
use Rattle.broom.specs.Erasing.{EraseTold}
use Rattle.broom.specs.Meeting.{BroomsMet}
use Rattle.broom.specs.Dead.{DeadBySurvey, DeadTold, InspectedTold}
use Rattle.broom.proofs.Loading.{loaded_changes}
use Rattle.broom.specs.Loading.{StateLoaded}
use Rattle.broom.specs.Told.{DrainTold, NextTold}
use Rattle.broom.specs.declared.turns.Choice.TheVariants as choice
use Rattle.broom.specs.declared.turns.Choice.{Choice}
use Rattle.volume.specs.LeavesArray.{LeavesArray, sector_named}

-- so it is ready again where it is at the device
pub still_ready : (v : Volume) (before after : Broom) → IsBroomReady v before → HandsNothing before after → IsReady (flash_of v) after → IsBroomReady v after
still_ready v before after was same ready = record { ready = ready; queued = still_queued (queue_of v) before after same was.queued }

-- one more call leaves each sector that it doesn't name
by_call : (n s : ℕ) (h : List Call) (c : Call) → ¬ (sector_named c ≡ s) → held n (h ++ c ∷ []) s ≡ held n h s
by_call n s h (Write t r value) apart = held_by_write n h t r value s (λ e. apart (sym e))
by_call n s h (WriteNew t r value) apart = held_by_new n h t r value s (λ e. apart (sym e))
by_call n s h (Trim t r) apart = held_by_trim n h t r s (λ e. apart (sym e))

-- and so do more calls
by_calls : (n s : ℕ) (h k : List Call) → All (λ c. ¬ (sector_named c ≡ s)) k → held n (h ++ k) s ≡ held n h s
by_calls n s h [] apart = ap (λ x. held n x s) (append-nil h)
by_calls n s h (c ∷ k) apart =
    ap (λ x. held n x s) (sym (append_assoc h (c ∷ []) k))
    ∙ (by_calls n s (h ++ c ∷ []) k (All-tail (λ x. ¬ (sector_named x ≡ s)) c k apart) ∙ by_call n s h c (All-head (λ x. ¬ (sector_named x ≡ s)) c k apart))

-- what a broom knows leaves the array where it has seen more, and made no call
pub leaves : (v w : View) → Begins v.seen w.seen → AreOfHosts w.numbers w.seen → w.mine ≡ v.mine → LeavesArray v w
leaves v w later hosts mine = record {
  later = later;
  hosts = hosts;
  mine = mine;
  sectors = λ s low apart. ap (λ h. held v.numbers.sectors h s) (sym later.1) ∙ by_calls v.numbers.sectors s v.seen later.0 apart;
}

-- where it has seen no more
still : (v w : View) → w.seen ≡ v.seen → w.mine ≡ v.mine → AreOfHosts w.numbers w.seen → LeavesArray v w
still v w seen mine hosts = leaves v w (subst (λ (h : List Call). Begins v.seen h) (sym seen) (Begins-refl v.seen)) hosts mine

-- where it knows the same
same : (v w : View) → w ≡ v → AreOfHosts w.numbers w.seen → LeavesArray v w
same v w is hosts = still v w (ap (λ (x : View). x.seen) is) (ap (λ (x : View). x.mine) is) hosts

pub drained : (b a : Broom) (answer : Drain) → DrainTold b answer a → AreOfHosts (view_of_broom a).numbers (view_of_broom a).seen
    → LeavesArray (view_of_broom b) (view_of_broom a)
drained b a (drain.Drained block copied) t hosts = leaves (view_of_broom b) (view_of_broom a) t.made.later hosts (ap (λ (x : View). x.mine) t.changed)
drained b a drain.NothingToGain t hosts = leaves (view_of_broom b) (view_of_broom a) t.0.made.later hosts (ap (λ (x : View). x.mine) t.0.changed)
drained b a drain.NoSpare t hosts = same (view_of_broom b) (view_of_broom a) t.view hosts
drained b a drain.Lost t hosts = leaves (view_of_broom b) (view_of_broom a) t.0.made.later hosts (ap (λ (x : View). x.mine) t.0.changed)
drained b a drain.QueueFull t hosts = absurd t

pub next_drained : (b a : Broom) (answer : Drain) → NextTold b answer a → AreOfHosts (view_of_broom a).numbers (view_of_broom a).seen
    → LeavesArray (view_of_broom b) (view_of_broom a)
next_drained b a (drain.Drained block copied) t hosts = leaves (view_of_broom b) (view_of_broom a) t.1.later hosts (ap (λ (x : View). x.mine) t.1.changed)
next_drained b a drain.NothingToGain t hosts = same (view_of_broom b) (view_of_broom a) t.1 hosts
next_drained b a drain.NoSpare t hosts = same (view_of_broom b) (view_of_broom a) t.0.view hosts
next_drained b a drain.Lost t hosts = still (view_of_broom b) (view_of_broom a) (ap (λ (x : View). x.seen) t.2) (ap (λ (x : View). x.mine) t.2) hosts
next_drained b a drain.QueueFull t hosts = absurd t

-- where it had seen more by a survey, and saw no more behind it
behind : (v u w : View) → Begins v.seen u.seen → u.mine ≡ v.mine → (w.seen ≡ u.seen) × (w.mine ≡ u.mine) → AreOfHosts w.numbers w.seen → LeavesArray v w
behind v u w later mine same hosts = leaves v w (subst (λ (h : List Call). Begins v.seen h) (sym same.0) later) hosts (same.1 ∙ mine)

-- a drain of an inspected block sees nothing of the history
inspected : (r a : Broom) (block : ℕ) (answer : Drain) → InspectedTold r block answer a
    → ((view_of_broom a).seen ≡ (view_of_broom r).seen) × ((view_of_broom a).mine ≡ (view_of_broom r).mine)
inspected r a block (drain.Drained one copied) t = (ap (λ (x : View). x.seen) t.2.changed, ap (λ (x : View). x.mine) t.2.changed)
inspected r a block drain.NothingToGain t = absurd t
inspected r a block drain.NoSpare t = elim t.0 [
  | inl other ↦ (ap (λ (x : View). x.seen) other.changed, ap (λ (x : View). x.mine) other.changed)
  | inr live ↦ (ap (λ (x : View). x.seen) live.stopped.changed, ap (λ (x : View). x.mine) live.stopped.changed)
]
inspected r a block drain.Lost t = (ap (λ (x : View). x.seen) t.0.changed, ap (λ (x : View). x.mine) t.0.changed)
inspected r a block drain.QueueFull t = absurd t

surveyed : (b a : Broom) (answer : Drain) → DeadBySurvey b answer a → AreOfHosts (view_of_broom a).numbers (view_of_broom a).seen
    → LeavesArray (view_of_broom b) (view_of_broom a)
surveyed b a answer t hosts =
    let chosen = t.2.chosen in
    behind (view_of_broom b) (view_of_broom t.1) (view_of_broom a) chosen.made.later (ap (λ (x : View). x.mine) chosen.changed)
    (inspected t.1 a t.0 answer t.4) hosts

pub dead_drained : (b a : Broom) (answer : Drain) → DeadTold b answer a → AreOfHosts (view_of_broom a).numbers (view_of_broom a).seen
    → LeavesArray (view_of_broom b) (view_of_broom a)
dead_drained b a (drain.Drained block copied) t hosts = surveyed b a (drain.Drained block copied) t hosts
dead_drained b a drain.NothingToGain t hosts =
    leaves (view_of_broom b) (view_of_broom a) t.0.gained.made.later hosts (ap (λ (x : View). x.mine) t.0.gained.changed)
dead_drained b a drain.NoSpare t hosts = elim t [
  | inl live ↦ leaves (view_of_broom b) (view_of_broom a) live.1.chosen.made.later hosts (ap (λ (x : View). x.mine) live.1.chosen.changed)
  | inr told ↦ surveyed b a drain.NoSpare told hosts
]
dead_drained b a drain.Lost t hosts = surveyed b a drain.Lost t hosts
dead_drained b a drain.QueueFull t hosts = absurd t

-- an erase loads and stores words of blocks alone
by_change : (v w x : View) → w ≡ x → x.seen ≡ v.seen → x.mine ≡ v.mine → AreOfHosts w.numbers w.seen → LeavesArray v w
by_change v w x is seen mine hosts = still v w (ap (λ (y : View). y.seen) is ∙ seen) (ap (λ (y : View). y.mine) is ∙ mine) hosts

pub erased : (b a : Broom) (block : ℕ) (answer : Erase) → EraseTold b block answer a → AreOfHosts (view_of_broom a).numbers (view_of_broom a).seen
    → LeavesArray (view_of_broom b) (view_of_broom a)
erased b a block (erase.Erased one true) t hosts = by_change (view_of_broom b) (view_of_broom a) _ t.1.erased.changed refl refl hosts
erased b a block (erase.Erased one false) t hosts = by_change (view_of_broom b) (view_of_broom a) _ t.1.erased.changed refl refl hosts
erased b a block (erase.Retired one) t hosts = by_change (view_of_broom b) (view_of_broom a) _ t.1.erased.changed refl refl hosts
erased b a block erase.Pinned t hosts = by_change (view_of_broom b) (view_of_broom a) _ t.0.changed refl refl hosts
erased b a block erase.Stale t hosts = by_change (view_of_broom b) (view_of_broom a) _ t.0.changed refl refl hosts
erased b a block erase.QueueEmpty t hosts = absurd t

-- a load of a block's state changes no sector
pub loaded : (b a : Broom) (block : ℕ) (state : PinWord) → StateLoaded b block state a → AreOfHosts (view_of_broom a).numbers (view_of_broom a).seen
    → LeavesArray (view_of_broom b) (view_of_broom a)
loaded b a block state t hosts =
    by_change (view_of_broom b) (view_of_broom a) _ (loaded_changes (view_of_broom b) (view_of_broom a) block (pin_word state) t.loaded) refl refl hosts

-- ---- turns
-- what the queue has to do with a turn is nothing that the view knows
elsewhere : (b a : Broom) → IsElse b a → view_of_broom a ≡ view_of_broom b
elsewhere b a is = ap view_of_broom is

-- between two brooms that know the same
moved : (v v' w w' : View) → v ≡ v' → w' ≡ w → LeavesArray v w → LeavesArray v' w'
moved v v' w w' first last told = subst (λ (x : View). LeavesArray v' x) (sym last) (subst (λ (x : View). LeavesArray x w) first told)

drained_by : (c : Choice) (b a : Broom) (answer : Drain) → DrainedBy c b answer a → AreOfHosts (view_of_broom a).numbers (view_of_broom a).seen
    → LeavesArray (view_of_broom b) (view_of_broom a)
drained_by choice.Survey b a answer t hosts = drained b a answer t.0 hosts
drained_by choice.Next b a answer t hosts = next_drained b a answer t hosts
drained_by choice.Dead b a answer t hosts = dead_drained b a answer t hosts

after_put : (c : Choice) (b a : Broom) (answer : Drain) → DrainedAfterPut (DrainedBy c) b answer a
    → AreOfHosts (view_of_broom a).numbers (view_of_broom a).seen → LeavesArray (view_of_broom b) (view_of_broom a)
after_put c b a answer t hosts =
    moved (view_of_broom t.relieved) (view_of_broom b) (view_of_broom a) (view_of_broom a) (elsewhere b t.relieved t.first.rest) refl
    (drained_by c t.relieved a answer t.drain hosts)

pub turned : (c : Choice) (limit : ℕ) (b a : Broom) (answer : Drain) → TurnTold (DrainedBy c) limit b answer a
    → AreOfHosts (view_of_broom a).numbers (view_of_broom a).seen → LeavesArray (view_of_broom b) (view_of_broom a)
turned c limit b a (drain.Drained block copied) t hosts =
    let handed = elsewhere t.drained a t.handed.rest in
    moved (view_of_broom b) (view_of_broom b) (view_of_broom t.drained) (view_of_broom a) refl handed
    (after_put c b t.drained (drain.Drained block copied) t.drain (subst (λ (x : View). AreOfHosts x.numbers x.seen) handed hosts))
turned c limit b a drain.NothingToGain t hosts = after_put c b a drain.NothingToGain t hosts
turned c limit b a drain.NoSpare t hosts = after_put c b a drain.NoSpare t hosts
turned c limit b a drain.Lost t hosts = after_put c b a drain.Lost t hosts
turned c limit b a drain.QueueFull t hosts = same (view_of_broom b) (view_of_broom a) (elsewhere b a t.rest) hosts

fetched_erased : (b a : Broom) (block : ℕ) (answer : Erase) → FetchedAndErased b block answer a
    → AreOfHosts (view_of_broom a).numbers (view_of_broom a).seen → LeavesArray (view_of_broom b) (view_of_broom a)
fetched_erased b a block answer t hosts =
    moved (view_of_broom t.fetched) (view_of_broom b) (view_of_broom a) (view_of_broom a) (elsewhere b t.fetched t.first.rest) refl
    (erased t.fetched a block answer t.erase hosts)

pub erased_one : (limit : ℕ) (b a : Broom) (answer : Erase) → EraseOneTold limit b answer a
    → AreOfHosts (view_of_broom a).numbers (view_of_broom a).seen → LeavesArray (view_of_broom b) (view_of_broom a)
erased_one limit b a (erase.Erased block kept) t hosts = fetched_erased b a t.0 (erase.Erased block kept) t.1 hosts
erased_one limit b a (erase.Retired block) t hosts = fetched_erased b a t.0 (erase.Retired block) t.1 hosts
erased_one limit b a erase.Pinned t hosts =
    let handed = elsewhere t.found a t.handed.rest in
    moved (view_of_broom b) (view_of_broom b) (view_of_broom t.found) (view_of_broom a) refl handed
    (fetched_erased b t.found t.block erase.Pinned t.erase (subst (λ (x : View). AreOfHosts x.numbers x.seen) handed hosts))
erased_one limit b a erase.Stale t hosts = fetched_erased b a t.0 erase.Stale t.1 hosts
erased_one limit b a erase.QueueEmpty t hosts = same (view_of_broom b) (view_of_broom a) (elsewhere b a t.rest) hosts

-- ---- meetings
pub met_first : (v v' x x' : View) → BroomsMet v v' x x' → AreOfHosts x.numbers x.seen → LeavesArray v x
met_first v v' x x' t hosts = leaves v x t.later hosts (ap (λ (y : View). y.mine) t.first.changed)

pub met_second : (v v' x x' : View) → BroomsMet v v' x x' → AreOfHosts x'.numbers x'.seen → LeavesArray v' x'
met_second v v' x x' t hosts = leaves v' x' (Begins-trans v'.seen x.seen x'.seen t.brought t.shared) hosts (ap (λ (y : View). y.mine) t.second.changed)

-- ---- a broom that is given up
pub given_up : (v w : View) → w.seen ≡ v.seen → w.mine ≡ v.mine → w.numbers ≡ v.numbers → AreOfHosts v.numbers v.seen → LeavesArray v w
given_up v w seen mine numbers hosts =
    still v w seen mine (subst (λ (z : _). AreOfHosts z w.seen) (sym numbers) (subst (λ (h : List Call). AreOfHosts v.numbers h) (sym seen) hosts))
