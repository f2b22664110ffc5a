use Rattle.flash_table.proofs.{Permissions.whose, Permissions.of_pass, PassSteps.new_here, PassResults.stays_pass, PassResults.new_changed}
use Rattle.std.proofs.Common.{ℕ, List, refl, ap, ◌∙◌}
use Rattle.geometry.specs.History.{WriteNew}
use Rattle.flash_rule.specs.{declared.view.View.View, Plays.Placed}
use Rattle.flash_rule.proofs.Steps.{called}
use Rattle.flash_table.specs.Flash.{view_of}
use Rattle.flash_table.proofs.flash.Flash.place_new.Goals.{After-compare_exchange-found}
use Rattle.flash_table.proofs.flash.Flash.place_new.Goals as goal

pub compare_exchange-found-requires : goal.compare_exchange-found-requires
compare_exchange-found-requires c =
    new_here (of_pass c.requires.pass) c.args.sector c.pack-new.result c.args.page c.requires.pass.role
    c.requires.sector c.pack-new.ensures c.requires.page c.requires.counted

placed : (c : After-compare_exchange-found)
    → (t : ℕ) × (value : List ℕ)
    × Placed (view_of c.args.pass.now) (WriteNew t c.args.sector value) c.args.sector c.compare_exchange-found.result c.compare_exchange-found.new.seat.me.0
placed c = new_changed c.requires.pass c.args.sector
    c.pack-new.result c.args.page c.pack-new.ensures c.requires.page c.requires.counted c.compare_exchange-found.ensures.2

pub invariant_of-pass-clause-owns : goal.invariant_of-pass-clause-owns
invariant_of-pass-clause-owns c =
    let t = placed (goal.at.invariant_of-pass-clause-owns c).After-compare_exchange-found in
    ap (λ (w : View). w.owns) t.2.changed ∙ c.args.pass.now.owns

pub returns-clause-placed : goal.returns-clause-placed
returns-clause-placed c t value role can =
    called (view_of c.args.pass.now) _ c.args.sector c.compare_exchange-found.result _ _
    (c.compare_exchange-found.ensures.2.1 t c.args.page value role refl c.pack-new.ensures c.requires.page can) c.was_by.ensures.empty c.was_by.ensures.written

pub returns-clause-pass : goal.returns-clause-pass
returns-clause-pass c =
    stays_pass c.requires.pass c.compare_exchange-found.ensures.0 (ap whose (placed (goal.at.returns-clause-pass c).After-compare_exchange-found).2.changed)
