-- That a broom is ready is a fact with at most one proof, so that a struct can keep it together with its broom.
use Rattle.std.specs.Prelude.{◌≡◌, ℕ, ◌<◌, Option, Some}
use Rattle.std.proofs.Common.{sym, ap, ◌∙◌}
use Rattle.std.proofs.Props.{props}
use mathlib.Core.HLevel.{Σ_prop_path}
use Rattle.flash_rule.specs.declared.facts.Name.TheVariants.{Broom as ABroom}
use Rattle.flash_rule.specs.declared.facts.Role.{Role}
use Rattle.flash_rule.specs.declared.facts.Role.TheVariants.{Player}
use Rattle.flash_rule.specs.declared.facts.Work.{Work}
use Rattle.erase_queue.specs.declared.queue.EraseQueue.{EraseQueue}
use Rattle.flash_table.specs.declared.flash.Flash.{Flash}
use Rattle.flash_table.specs.declared.pass.OpenBlock.{OpenBlock}
use Rattle.broom.specs.declared.broom.Broom.{Broom}
use Rattle.broom.specs.Handing.{IsQueued}
use Rattle.broom.specs.Ready.{IsReady}

same_number : (i j : ℕ) → Player (ABroom i) ≡ Player (ABroom j) → i ≡ j
same_number i j e = cc

same_block : (o p : OpenBlock) → Some o ≡ Some p → o ≡ p
same_block o p e = cc

-- that a seat is of a broom with some number is a fact with at most one proof
pub number-prop : (r : Role) → IsProp ((i : ℕ) × (r ≡ Player (ABroom i)))
number-prop r s t = Σ_prop_path (λ i. hlevel props) (same_number s.0 t.0 (sym s.1 ∙ t.1))

-- that a page is a counted one of a destination is a fact with at most one proof
pub filed-prop : (w : Work) (d : Option OpenBlock) → IsProp ((o : OpenBlock) × (d ≡ Some o) × (w.page.block ≡ o.block) × (w.page.page < o.written))
filed-prop w d s t =
    let Its : OpenBlock → Type 0 = λ o. (d ≡ Some o) × (w.page.block ≡ o.block) × (w.page.page < o.written) in
    ap (λ (y : (o : OpenBlock) × Its o). (y.0, y.1.0, y.1.1, y.1.2))
    (Σ_prop_path {B = Its} (λ o. hlevel props) {u = (s.0, (s.1, s.2, s.3))} {v = (t.0, (t.1, t.2, t.3))} (same_block s.0 t.0 (sym s.1 ∙ t.1)))

-- That a broom is ready is a fact with at most one proof, so that a struct can keep it together with its broom
pub IsReady-prop : (f : Flash) (b : Broom) → IsProp (IsReady f b)
IsReady-prop f b = hlevel (props, number-prop, filed-prop)

-- That a broom has its place at the queue is a fact with at most one proof
pub IsQueued-prop : (q : EraseQueue) (b : Broom) → IsProp (IsQueued q b)
IsQueued-prop q b = hlevel props
