use Rattle.std.proofs.Common.{◌≡◌, ◌⊎◌, inl, inr, ⊎_elim, ℕ, List, sym, ◌∙◌, ap, subst}
use Rattle.durable.specs.Flash.{Flash, LosesPages}
use Rattle.durable.specs.Updates.{changed}
use Rattle.durable.specs.declared.command.Command.TheVariants.{Program}
use Rattle.nand.specs.Driving.{CanMount, CanMountEither, CutHoldsIn, HoldsIn, IsLeftIn, StepChanges, StepCutLeaves, array_now}
use Rattle.nand.specs.Numbers.{chip_block}
use Rattle.nand.specs.Phases.{IsPhaseOf}
use Rattle.nand.specs.declared.driver.Phase.{Phase}
use Rattle.nand.specs.declared.driver.Step.{Step}
use Rattle.nand.proofs.Driven.{can_alike, can_mount, changes_in_use, job_makes, job_value, knows_marked, mounts_either, numbered_cut}
use Rattle.nand.proofs.Driven.{program_cut, same_flash, way_look, way_perform}
use Rattle.nand.proofs.driver.Driver.next.Goals as goal

pub returns-in-Perform-clause-cut : goal.returns-in-Perform-clause-cut
returns-in-Perform-clause-cut c f t value was holds cut =
    let old = c.args.self.now in
    let ns = old.numbers.items in
    let m = c.in-Perform.command in
    let job = c.in-Perform.job in
    let h = subst (λ (p : Phase). HoldsIn p f old value was) c.in-Perform.is holds in
    let way = way_perform old.core m job (subst (λ (p : Phase). ∥ IsPhaseOf old.core p ∥₁) c.in-Perform.is old.under_way) in
    let left = numbered_cut ns h.0.apart f t m job value h.1 (job_value f old job value was h.1 h.2)
    (subst (λ (s : Step). StepCutLeaves s value f t) c.step.ensures cut) in
    subst (λ (p : Phase). CutHoldsIn p t old value was) (sym c.in-Perform.is) (⊎_elim
    (λ before. inl before)
    (λ after. inr (can_alike t ns old.core _ (changed was old.call value) after (job_makes f old job value was h.1 h.2)))
    (mounts_either f t ns old.core old.spare old.good (array_now old value was) h.0 m job.extent h.1 way.0 way.1 left))

pub returns-in-Look-clause-cut : goal.returns-in-Look-clause-cut
returns-in-Look-clause-cut c f t value was holds same =
    let old = c.args.self.now in
    let ns = old.numbers.items in
    let at = c.in-Look.at in
    let job = c.in-Look.field-2 in
    let h = subst (λ (p : Phase). HoldsIn p f old value was) c.in-Look.is holds in
    let way = way_look old.core at c.in-Look.field-1 job (subst (λ (p : Phase). ∥ IsPhaseOf old.core p ∥₁) c.in-Look.is old.under_way) in
    let left = program_cut ns h.2.apart h.0 f at c.in-Look.field-1 job.extent h.1 h.4 in
    let either : CanMountEither f old value was = ⊎_elim
    (λ before. inl before)
    (λ after. inr (can_alike f ns old.core _ (changed was old.call value) after (job_makes h.0 old job value was h.1 h.3)))
    (mounts_either h.0 f ns old.core old.spare old.good (array_now old value was) h.2 (Program at c.in-Look.field-1) job.extent h.1 way.0 way.1 left) in
    subst (λ (p : Phase). CutHoldsIn p t old value was) (sym c.in-Look.is) (same_flash (λ (g : Flash). CanMountEither g old value was) f t same either)

pub returns-in-Fetch-clause-cut : goal.returns-in-Fetch-clause-cut
returns-in-Fetch-clause-cut c f t value was holds same =
    let old = c.args.self.now in
    let now = array_now old value was in
    let h = subst (λ (p : Phase). HoldsIn p f old value was) c.in-Fetch.is holds in
    subst (λ (p : Phase). CutHoldsIn p t old value was) (sym c.in-Fetch.is)
    (same_flash (λ (g : Flash). CanMount g old.numbers.items old.core now) f t same
    (can_mount f old.numbers.items old.core old.spare old.good now h.0))

pub returns-in-Mark-clause-cut : goal.returns-in-Mark-clause-cut
returns-in-Mark-clause-cut c f t value was holds loses =
    let old = c.args.self.now in
    let ns = old.numbers.items in
    let now = array_now old value was in
    let h = subst (λ (p : Phase). HoldsIn p f old value was) c.in-Mark.is holds in
    let place : c.chip_block.result ≡ chip_block ns old.unmarked =
    c.chip_block.ensures ∙ ap (λ (numbers : List ℕ). chip_block numbers old.unmarked) c.deref-in-Mark.ensures.value in
    subst (λ (p : Phase). CutHoldsIn p t old value was) (sym c.in-Mark.is)
    (can_mount t ns old.core old.spare old.good now
    (knows_marked f t ns old.core old.spare old.good now old.unmarked h.0 old.after_use h.2 h.3 (subst (LosesPages f t) place loses)))

pub returns-in-Idle-clause-cut : goal.returns-in-Idle-clause-cut
returns-in-Idle-clause-cut c f t value was holds same =
    let old = c.args.self.now in
    let now = array_now old value was in
    let h = subst (λ (p : Phase). HoldsIn p f old value was) c.in-Idle.is holds in
    subst (λ (p : Phase). CutHoldsIn p t old value was) (sym c.in-Idle.is)
    (same_flash (λ (g : Flash). CanMount g old.numbers.items old.core now) f t same
    (can_mount f old.numbers.items old.core old.spare old.good now h))

pub returns-in-ReadOnly-clause-cut : goal.returns-in-ReadOnly-clause-cut
returns-in-ReadOnly-clause-cut c f t value was holds same =
    let old = c.args.self.now in
    let h = subst (λ (p : Phase). HoldsIn p f old value was) c.in-ReadOnly.is holds in
    subst (λ (p : Phase). CutHoldsIn p t old value was) (sym c.in-ReadOnly.is)
    (same_flash (λ (g : Flash). CanMount g old.numbers.items old.core (array_now old value was)) f t same h.1)

pub returns-in-Perform-clause-alone : goal.returns-in-Perform-clause-alone
returns-in-Perform-clause-alone c b changes left =
    let old = c.args.self.now in
    let m = c.in-Perform.command in
    let job = c.in-Perform.job in
    let way = way_perform old.core m job (subst (λ (p : Phase). ∥ IsPhaseOf old.core p ∥₁) c.in-Perform.is old.under_way) in
    let used = changes_in_use old.numbers.items old.core m job b way.1 (subst (λ (s : Step). StepChanges s b) c.step.ensures changes) in
    ⊎_elim (λ out. out used.0 (inl used.1) used.2) (λ only. subst (λ (p : Phase). IsLeftIn p old.numbers.items b) c.in-Perform.is only) left
