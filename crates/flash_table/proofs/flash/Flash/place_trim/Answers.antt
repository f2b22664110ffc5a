use Rattle.flash_table.proofs.{Permissions.whose, Permissions.of_pass, PassSteps.trim_here, PassResults.stays_pass, PassResults.trim_changed}
use Rattle.std.proofs.Common.{ap, ◌∙◌}
use Rattle.flash_rule.specs.declared.view.View.{View}
use Rattle.flash_rule.proofs.Steps.{called}
use Rattle.flash_table.specs.Flash.{view_of}
use Rattle.flash_table.proofs.flash.Flash.place_trim.Goals as goal

pub swap-found-requires : goal.swap-found-requires
swap-found-requires c = trim_here (of_pass c.requires.pass) c.args.sector c.requires.pass.role c.requires.sector

pub invariant_of-pass-clause-owns : goal.invariant_of-pass-clause-owns
invariant_of-pass-clause-owns c =
    let t = trim_changed c.requires.pass c.args.sector c.swap-found.ensures.2 in
    ap (λ (w : View). w.owns) t.1.changed ∙ c.args.pass.now.owns

pub returns-clause-called : goal.returns-clause-called
returns-clause-called c t role =
    called (view_of c.args.pass.now) _ c.args.sector c.swap-found.result _ _ (c.swap-found.ensures.2.1 t role) c.was_by.ensures.empty c.was_by.ensures.written

pub returns-clause-pass : goal.returns-clause-pass
returns-clause-pass c =
    stays_pass c.requires.pass c.swap-found.ensures.0 (ap whose (trim_changed c.requires.pass c.args.sector c.swap-found.ensures.2).1.changed)
