use Rattle.flash_table.proofs.{Permissions.whose, Permissions.of_pass, PassSteps.write_here, PassResults.stays_pass, PassResults.write_changed}
use Rattle.std.proofs.Common.{ℕ, List, ap, ◌∙◌}
use Rattle.geometry.specs.History.{Write}
use Rattle.flash_rule.specs.{declared.view.View.View, Plays.Placed}
use Rattle.flash_rule.proofs.Steps.{called}
use Rattle.flash_table.specs.Flash.{view_of}
use Rattle.flash_table.proofs.flash.Flash.place_write.Goals.{After-swap-found}
use Rattle.flash_table.proofs.flash.Flash.place_write.Goals as goal

pub swap-found-requires : goal.swap-found-requires
swap-found-requires c =
    write_here (of_pass c.requires.pass) c.args.sector c.pack-word.result c.args.page c.requires.pass.role
    c.requires.sector c.pack-word.ensures c.requires.page c.requires.counted

placed : (c : After-swap-found)
    → (t : ℕ) × (value : List ℕ) × Placed (view_of c.args.pass.now) (Write t c.args.sector value) c.args.sector c.swap-found.result c.swap-found.new.seat.me.0
placed c = write_changed c.requires.pass c.args.sector c.pack-word.result
    c.args.page c.pack-word.ensures c.requires.page c.requires.counted c.swap-found.ensures.2

pub invariant_of-pass-clause-owns : goal.invariant_of-pass-clause-owns
invariant_of-pass-clause-owns c =
    let t = placed (goal.at.invariant_of-pass-clause-owns c).After-swap-found in
    ap (λ (w : View). w.owns) t.2.changed ∙ c.args.pass.now.owns

pub returns-clause-placed : goal.returns-clause-placed
returns-clause-placed c t value role can =
    called (view_of c.args.pass.now) _ c.args.sector c.swap-found.result _ _
    (c.swap-found.ensures.2.1 t c.args.page value role c.pack-word.ensures c.requires.page can) c.was_by.ensures.empty c.was_by.ensures.written

pub returns-clause-pass : goal.returns-clause-pass
returns-clause-pass c = stays_pass c.requires.pass c.swap-found.ensures.0 (ap whose (placed (goal.at.returns-clause-pass c).After-swap-found).2.changed)
