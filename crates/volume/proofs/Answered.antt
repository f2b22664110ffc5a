-- Calls that are done are steps of the array, and the passes of a new device are ready.
use Rattle.std.proofs.Common.{◌≡◌, ℕ, ◌<◌, All, List, [], ◌++◌, Option, Result, None, Some, slice_get, get_or, sym, ap, ◌∙◌}
use Rattle.std.specs.{Result.IfOk, Option.IfSome}
use Rattle.std.proofs.lemmas.{Result.IfOk-weaker, Option.slice_get-get_or, List.Elements.All-nil, List.Elements.All-same}
use Rattle.geometry.specs.{Geometry.sectors_of, History.Begins, History.Call, History.was, Limits.Numbers, declared.answer.Was.Was}
use Rattle.geometry.specs.History as call
use Rattle.flash_rule.specs.declared.{facts.Name.TheVariants.Pass as APass, facts.Role.TheVariants.Player, view.View.View}
use Rattle.flash_rule.{specs.Views.caller, specs.Views.calls_of, specs.Plays.Called, specs.Plays.is_unpinned, proofs.Owning.none_some}
use Rattle.flash_table.specs.declared.{flash.Flash.Flash, pass.Pass.Pass}
use Rattle.flash_table.specs.Flash.{IsPassOf, view_of, opened_of, geometry_of, device, first_view}
use Rattle.host.specs.{declared.writing.NoBlock.NoBlock, Ready.IsReady, Told.Wrote, Told.WroteNew}
use Rattle.volume.specs.Correct.{Correct, Asked, Answer, IsAnswerAt, Write, WriteNew, Trim, Replaced, calls_for, known_by}

-- a pass has the numbers of its device
sectors : (f : Flash) (p : Pass) → IsReady f p → (view_of p).numbers.sectors ≡ sectors_of (geometry_of f)
sectors f p ready = ap (λ (z : Numbers). z.sectors) ready.rested.pass.numbers

-- a call that is done, by what its pass knows before and after
made : (n t : ℕ) (asked : Asked) (answer : Answer) (v w : View) (place : List Call) → Begins v.seen place → IsAnswerAt n place asked answer
    → w.seen ≡ place ++ calls_for t asked → w.mine ≡ v.mine ++ calls_for t asked → calls_of t w.seen ≡ w.mine
    → Correct n t asked answer (known_by v) (known_by w)
made n t asked answer v w place later answered seen mine own =
    record { place = place; later = later; answered = answered; seen = seen; mine = mine; own = own }

pub written : (f : Flash) (p q : Pass) (t s : ℕ) (value : List ℕ) (answer : Was) → IsReady f p → IsReady f q → (view_of p).role ≡ Player (APass t)
    → Wrote (view_of p) t s value answer (view_of q)
    → Correct (sectors_of (geometry_of f)) t (Write s value) (Replaced answer) (known_by (view_of p)) (known_by (view_of q))
written f p q t s value answer old new role w =
    made _ t (Write s value) (Replaced answer) (view_of p) (view_of q) w.before w.later
    (w.answered ∙ ap (λ n. was n w.before s) (sectors f p old)) w.now (ap (λ (v : View). v.mine) w.changed)
    (new.rested.own t (ap (λ (v : View). v.role) w.changed ∙ role))

-- and so for either outcome
pub writes : (f : Flash) (p q : Pass) (s : ℕ) (value : List ℕ) (r : Result Was NoBlock) → IsReady f p → IsReady f q
    → IfOk r (λ answer. (t : ℕ) → (view_of p).role ≡ Player (APass t) → Wrote (view_of p) t s value answer (view_of q))
    → IfOk r (λ answer. (t : ℕ) → (view_of p).role ≡ Player (APass t)
    → Correct (sectors_of (geometry_of f)) t (Write s value) (Replaced answer) (known_by (view_of p)) (known_by (view_of q)))
writes f p q s value r old new wrote = IfOk-weaker r _ _ (λ answer told t role. written f p q t s value answer old new role (told t role)) wrote

written_new : (f : Flash) (p q : Pass) (t s : ℕ) (value : List ℕ) (answer : Was) → IsReady f p → IsReady f q → (view_of p).role ≡ Player (APass t)
    → WroteNew (view_of p) t s value answer (view_of q)
    → Correct (sectors_of (geometry_of f)) t (WriteNew s value) (Replaced answer) (known_by (view_of p)) (known_by (view_of q))
written_new f p q t s value answer old new role w =
    made _ t (WriteNew s value) (Replaced answer) (view_of p) (view_of q) w.before w.later
    (w.answered ∙ ap (λ n. was n w.before s) (sectors f p old)) w.now (ap (λ (v : View). v.mine) w.changed)
    (new.rested.own t (ap (λ (v : View). v.role) w.changed ∙ role))

-- and so for a write of an empty sector, whatever the sector was
pub writes_new : (f : Flash) (p q : Pass) (s : ℕ) (value : List ℕ) (found : Option Was) → IsReady f p → IsReady f q
    → IfSome found (λ answer. (t : ℕ) → (view_of p).role ≡ Player (APass t) → WroteNew (view_of p) t s value answer (view_of q))
    → IfSome found (λ answer. (t : ℕ) → (view_of p).role ≡ Player (APass t)
    → Correct (sectors_of (geometry_of f)) t (WriteNew s value) (Replaced answer) (known_by (view_of p)) (known_by (view_of q)))
writes_new f p q s value None old new wrote = wrote
writes_new f p q s value (Some answer) old new wrote = λ t role. written_new f p q t s value answer old new role (wrote t role)

pub trimmed : (f : Flash) (p q : Pass) (t s : ℕ) (answer : Was) → IsReady f p → (view_of p).role ≡ Player (APass t)
    → Called (view_of p) (call.Trim t s) s answer (view_of q)
    → Correct (sectors_of (geometry_of f)) t (Trim s) (Replaced answer) (known_by (view_of p)) (known_by (view_of q))
trimmed f p q t s answer old role w =
    made _ t (Trim s) (Replaced answer) (view_of p) (view_of q) w.before w.later
    (w.answered ∙ ap (λ n. was n w.before s) (sectors f p old)) w.now (ap (λ (v : View). v.mine) w.changed)
    (w.own t role)

-- a pass that has seen nothing and has nothing open
pub fresh : (f : Flash) (p : Pass) (t : ℕ) → IsPassOf f p → view_of p ≡ first_view (device f) t → opened_of p ≡ None → IsReady f p
fresh f p t pass first nothing =
    let seen : (view_of p).seen ≡ [] = ap (λ (v : View). v.seen) first in
    let mine : (view_of p).mine ≡ [] = ap (λ (v : View). v.mine) first in
    let work = ap (λ (v : View). v.work) first in
    record {
      rested = record {
        pass = pass;
        room = λ o is. absurd (none_some o (sym nothing ∙ is));
        settled = λ w e is own. absurd (none_some w (sym work ∙ is));
        idle = λ _. work;
        callers = All-same (λ c. caller c < (view_of p).numbers.hosts) (view_of p).seen [] seen (All-nil (λ c. caller c < (view_of p).numbers.hosts));
        own = λ u role. ap (calls_of u) seen ∙ sym mine;
        whole = ap (λ (v : View). v.whole) first;
        alone = ap (λ (v : View). v.guest) first;
      };
      unpinned = ap (λ (v : View). is_unpinned v.pin) first;
    }

-- the passes of a device on which nothing was done
pub all_fresh : (f : Flash) (passes : List Pass)
    → ((t : ℕ) (p : Pass) → slice_get passes t ≡ Some p → IsPassOf f p × (view_of p ≡ first_view (device f) t) × (opened_of p ≡ None)) → All (IsReady f) passes
all_fresh f passes each k d low =
    let p = get_or passes k d in
    let h = each k p (slice_get-get_or passes k d low) in fresh f p k h.0 h.1 h.2
