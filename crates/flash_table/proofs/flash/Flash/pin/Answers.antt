use Rattle.flash_table.proofs.{Permissions.whose, Permissions.of_pass, PassSteps.pin_here, flash.Flash.pin.Goals.After-fetch_add-found}
use Rattle.std.proofs.Common.{◌≡◌, ℕ, List, ap, ◌∙◌}
use Rattle.flash_rule.specs.{declared.facts.Pin.TheVariants.Candidate, declared.view.View.View, Plays.Pinned}
use Rattle.flash_table.specs.Flash.{view_of}
use Rattle.flash_table.proofs.PassResults.{stays_pass, by_outcome, pin_pinned, pin_yes, pin_no}
use Rattle.flash_table.proofs.flash.Flash.pin.Goals as goal

pub fetch_add-found-requires : goal.fetch_add-found-requires
fetch_add-found-requires c = pin_here (of_pass c.requires.pass) c.args.page c.requires.block c.pin_at-word.ensures c.requires.pass.role c.requires.candidate

pinned : (c : After-fetch_add-found) (value : List ℕ) → (view_of c.args.pass.now).pin ≡ Candidate c.args.page value
    → Pinned (view_of c.args.pass.now) c.args.page value c.fetch_add-found.result c.fetch_add-found.new.seat.me.0
pinned c value pin = pin_pinned c.requires.pass c.pin_at-word.result c.args.page value pin c.pin_at-word.ensures c.fetch_add-found.ensures.2

pub invariant_of-pass-clause-owns : goal.invariant_of-pass-clause-owns
invariant_of-pass-clause-owns c =
    let told = pinned (goal.at.invariant_of-pass-clause-owns c).After-fetch_add-found c.requires.candidate.0 c.requires.candidate.1 in
    ap (λ (w : View). w.owns) told.changed ∙ c.args.pass.now.owns

pub returns-clause-pass : goal.returns-clause-pass
returns-clause-pass c =
    let told = pinned (goal.at.returns-clause-pass c).After-fetch_add-found c.requires.candidate.0 c.requires.candidate.1 in
    stays_pass c.requires.pass c.fetch_add-found.ensures.0 (ap whose told.changed)

pub returns-clause-pinned : goal.returns-clause-pinned
returns-clause-pinned c value pin =
    let told = pinned (goal.at.returns-clause-pinned c).After-fetch_add-found value pin in
    by_outcome c.finds_intact.result _ _ _ _ (pin_yes told) (pin_no told) c.finds_intact.ensures
