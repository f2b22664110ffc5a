use Rattle.std.proofs.Common.{inl, ⊎_elim, subst}
use Rattle.durable.specs.Commands.{CutLeaves}
use Rattle.durable.specs.Flash.{Flash}
use Rattle.durable.specs.declared.command.Command.TheVariants.{Program}
use Rattle.nand.specs.Driving.{HoldsIn, IsLeftAlone, IsLeftIn, IsMovingOf, KnowsArray, StepChanges, StepLeaves, array_now, step_in, step_of}
use Rattle.nand.specs.Nand.{ReadsStamp}
use Rattle.nand.specs.Numbers.{chip_page}
use Rattle.nand.specs.Phases.{IsPhaseOf}
use Rattle.nand.specs.declared.driver.Answer.{Answer}
use Rattle.nand.specs.declared.driver.Answer.TheVariants as answer
use Rattle.nand.specs.declared.driver.Phase.{Phase}
use Rattle.nand.proofs.Driven.{changed_number, same_flash, way_extent, way_look, way_perform, way_some}
use Rattle.nand.proofs.driver.Driver.done.Goals as goal

pub performed-requires-clause-next : goal.performed-requires-clause-next
performed-requires-clause-next c = let old = c.args.self.now in
    (way_perform old.core c.in-Perform.command c.in-Perform.job (subst (λ (p : Phase). ∥ IsPhaseOf old.core p ∥₁) c.in-Perform.is old.under_way)).1

pub failed-requires-clause-within : goal.failed-requires-clause-within
failed-requires-clause-within c = let old = c.args.self.now in
    (way_perform old.core c.in-Perform.command c.in-Perform.job (subst (λ (p : Phase). ∥ IsPhaseOf old.core p ∥₁) c.in-Perform.is old.under_way)).0

pub failed-requires-clause-next : goal.failed-requires-clause-next
failed-requires-clause-next c = let old = c.args.self.now in
    (way_perform old.core c.in-Perform.command c.in-Perform.job (subst (λ (p : Phase). ∥ IsPhaseOf old.core p ∥₁) c.in-Perform.is old.under_way)).1

pub failed-requires-clause-some : goal.failed-requires-clause-some
failed-requires-clause-some c = let old = c.args.self.now in
    way_some old.core c.in-Perform.command c.in-Perform.job (subst (λ (p : Phase). ∥ IsPhaseOf old.core p ∥₁) c.in-Perform.is old.under_way)

pub looked-requires-clause-within : goal.looked-requires-clause-within
looked-requires-clause-within c = let old = c.args.self.now in
    (way_look old.core c.in-Look.at c.in-Look.number c.in-Look.job (subst (λ (p : Phase). ∥ IsPhaseOf old.core p ∥₁) c.in-Look.is old.under_way)).0

pub looked-requires-clause-next : goal.looked-requires-clause-next
looked-requires-clause-next c = let old = c.args.self.now in
    (way_look old.core c.in-Look.at c.in-Look.number c.in-Look.job (subst (λ (p : Phase). ∥ IsPhaseOf old.core p ∥₁) c.in-Look.is old.under_way)).1

pub fetched-requires : goal.fetched-requires
fetched-requires c = let old = c.args.self.now in
    way_extent old.core c.in-Fetch.extent (subst (λ (p : Phase). ∥ IsPhaseOf old.core p ∥₁) c.in-Fetch.is old.under_way)

pub marked-requires : goal.marked-requires
marked-requires c = let old = c.args.self.now in
    way_extent old.core c.in-Mark.extent (subst (λ (p : Phase). ∥ IsPhaseOf old.core p ∥₁) c.in-Mark.is old.under_way)

pub returns-in-Done-clause-holds : goal.returns-in-Done-clause-holds
returns-in-Done-clause-holds c f t value was holds leaves =
    let old = c.args.self.now in
    let h = subst (λ (p : Phase). HoldsIn p f old value was) c.in-Perform.is holds in
    let done = subst (λ (a : Answer). StepLeaves (step_of old) a value f t) c.in-Done.is leaves in
    c.performed.ensures.holds f t value was h.1 h.0 h.2
    (subst (λ (p : Phase). StepLeaves (step_in old.numbers.items old.unmarked p) answer.Done value f t) c.in-Perform.is done)

pub returns-in-Failed-clause-holds : goal.returns-in-Failed-clause-holds
returns-in-Failed-clause-holds c f t value was holds leaves =
    let old = c.args.self.now in
    let h = subst (λ (p : Phase). HoldsIn p f old value was) c.in-Perform.is holds in
    let cut = subst (λ (a : Answer). StepLeaves (step_of old) a value f t) c.in-Failed.is leaves in
    c.failed.ensures.holds f t value was h.1 h.0 h.2
    (subst (λ (p : Phase). StepLeaves (step_in old.numbers.items old.unmarked p) answer.Failed value f t) c.in-Perform.is cut)

pub returns-in-Found-clause-holds : goal.returns-in-Found-clause-holds
returns-in-Found-clause-holds c f t value was holds leaves =
    let old = c.args.self.now in
    let at = c.in-Look.at in
    let there = chip_page old.numbers.items at in
    let reading = c.in-Found.reading in
    let h = subst (λ (p : Phase). HoldsIn p f old value was) c.in-Look.is holds in
    let found = subst (λ (a : Answer). StepLeaves (step_of old) a value f t) c.in-Found.is leaves in
    let read = subst (λ (p : Phase). StepLeaves (step_in old.numbers.items old.unmarked p) (answer.Found reading) value f t) c.in-Look.is found in
    c.looked.ensures.holds h.0 t value was h.1 h.2 h.3
    (same_flash (λ (g : Flash). CutLeaves (Program there c.in-Look.number) c.in-Look.job.extent h.1 h.0 g) f t read.0 h.4)
    (same_flash (λ (g : Flash). ReadsStamp (g there.block there.page) reading) f t read.0 read.1)

pub returns-in-Found-answer-clause-holds : goal.returns-in-Found-answer-clause-holds
returns-in-Found-answer-clause-holds c f t value was holds leaves =
    let old = c.args.self.now in
    let from = c.in-Fetch.from in
    let now = array_now old value was in
    let reading = c.in-Found-answer.reading in
    let h = subst (λ (p : Phase). HoldsIn p f old value was) c.in-Fetch.is holds in
    let found = subst (λ (a : Answer). StepLeaves (step_of old) a value f t) c.in-Found-answer.is leaves in
    let read = subst (λ (p : Phase). StepLeaves (step_in old.numbers.items old.unmarked p) (answer.Found reading) value f t) c.in-Fetch.is found in
    c.fetched.ensures.holds t value was h.1 (same_flash (λ (g : Flash). KnowsArray g old now) f t read.0 h.0)
    (same_flash (λ (g : Flash). IsMovingOf g old from c.in-Fetch.extent now h.1) f t read.0 h.2)
    (same_flash (λ (g : Flash). ReadsStamp (g from.block from.page) reading) f t read.0 read.1)

pub returns-in-Done-answer-clause-holds : goal.returns-in-Done-answer-clause-holds
returns-in-Done-answer-clause-holds c f t value was holds leaves =
    let old = c.args.self.now in
    let h = subst (λ (p : Phase). HoldsIn p f old value was) c.in-Mark.is holds in
    let done = subst (λ (a : Answer). StepLeaves (step_of old) a value f t) c.in-Done-answer.is leaves in
    c.marked.ensures.holds f t value was h.0 h.1 h.2 h.3
    (subst (λ (p : Phase). StepLeaves (step_in old.numbers.items old.unmarked p) answer.Done value f t) c.in-Mark.is done)

pub returns-in-Failed-clause-failed : goal.returns-in-Failed-clause-failed
returns-in-Failed-clause-failed c b one failed changes =
    let old = c.args.self.now in
    let ns = old.numbers.items in
    let number = changed_number ns c.in-Perform.command c.in-Perform.job b
    (subst (λ (p : Phase). StepChanges (step_in ns old.unmarked p) b) c.in-Perform.is changes) in
    subst (IsLeftAlone c.failed.new.self) number.2 (c.failed.ensures.alone number.0 one number.1)

pub returns-in-Done-clause-alone : goal.returns-in-Done-clause-alone
returns-in-Done-clause-alone c b one left = ⊎_elim
    (λ out. inl (c.performed.ensures.stays.given_up b out))
    (λ only. absurd (subst (λ (p : Phase). IsLeftIn p c.args.self.now.numbers.items b) c.in-Perform.is only))
    left

pub returns-in-Failed-clause-alone : goal.returns-in-Failed-clause-alone
returns-in-Failed-clause-alone c b one left = ⊎_elim
    (λ out. inl (c.failed.ensures.stays.given_up b out))
    (λ only. absurd (subst (λ (p : Phase). IsLeftIn p c.args.self.now.numbers.items b) c.in-Perform.is only))
    left

pub returns-in-Found-clause-alone : goal.returns-in-Found-clause-alone
returns-in-Found-clause-alone c b one left = ⊎_elim
    (λ out. inl (c.looked.ensures.stays.given_up b out))
    (λ only. subst (IsLeftAlone c.looked.new.self) (subst (λ (p : Phase). IsLeftIn p c.args.self.now.numbers.items b) c.in-Look.is only)
    (c.looked.ensures.alone one))
    left

pub returns-in-Found-answer-clause-alone : goal.returns-in-Found-answer-clause-alone
returns-in-Found-answer-clause-alone c b one left = ⊎_elim
    (λ out. inl (c.fetched.ensures.stays.given_up b out))
    (λ only. absurd (subst (λ (p : Phase). IsLeftIn p c.args.self.now.numbers.items b) c.in-Fetch.is only))
    left

pub returns-in-Done-answer-clause-alone : goal.returns-in-Done-answer-clause-alone
returns-in-Done-answer-clause-alone c b one left = ⊎_elim
    (λ out. inl (c.marked.ensures.stays.given_up b out))
    (λ only. absurd (subst (λ (p : Phase). IsLeftIn p c.args.self.now.numbers.items b) c.in-Mark.is only))
    left

pub returns-in-Failed-clause-reserve : goal.returns-in-Failed-clause-reserve
returns-in-Failed-clause-reserve c f value was holds fails some =
    let old = c.args.self.now in
    let h = subst (λ (p : Phase). HoldsIn p f old value was) c.in-Perform.is holds in
    c.failed.ensures.reserve f (array_now old value was) h.0 some

pub returns-in-Found-clause-reserve : goal.returns-in-Found-clause-reserve
returns-in-Found-clause-reserve c f value was holds fails some =
    let old = c.args.self.now in
    let h = subst (λ (p : Phase). HoldsIn p f old value was) c.in-Look.is holds in
    c.looked.ensures.reserve h.0 (array_now old value was) h.2 some
