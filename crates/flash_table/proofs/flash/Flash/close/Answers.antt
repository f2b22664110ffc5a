use Rattle.flash_table.proofs.{Permissions.whose, Permissions.of_pass, PassSteps.close_here, flash.Flash.close.Goals.After-fetch_add}
use Rattle.std.proofs.Common.{◌≡◌, ap}
use Rattle.flash_rule.specs.declared.view.View.{View}
use Rattle.flash_table.specs.{Flash.view_of, Owning.owned_of, GivingUp.closed_pass}
use Rattle.flash_table.proofs.PassResults.{stays_pass, close_can, close_view, pass_closed}
use Rattle.flash_table.proofs.flash.Flash.close.Goals as goal

pub fetch_add-requires : goal.fetch_add-requires
fetch_add-requires c =
    let can = close_can c.args.self.now.geometry (view_of c.args.pass.now) c.in-Some.is c.requires.settled in
    close_here (of_pass c.requires.pass) (owned_of c.in-Some.opened) can.1 c.pin_at-word.ensures can.0

closed : (c : After-fetch_add) → c.fetch_add.new.seat.me.0 ≡ closed_pass (view_of c.args.pass.now) c.args.pass.now.opened
closed c =
    let p = c.args.pass.now in
    let o = c.in-Some.opened in
    let can = close_can c.args.self.now.geometry (view_of p) c.in-Some.is c.requires.settled in
    pass_closed p o c.in-Some.is c.fetch_add.new.seat.me.0 (close_view (of_pass c.requires.pass) o can.0 c.pin_at-word.ensures c.fetch_add.ensures.2)

pub invariant_of-pass-clause-owns : goal.invariant_of-pass-clause-owns
invariant_of-pass-clause-owns c = ap (λ (w : View). w.owns) (closed (goal.at.invariant_of-pass-clause-owns c).After-fetch_add)

pub returns-clause-closed : goal.returns-clause-closed
returns-clause-closed c = closed (goal.at.returns-clause-closed c).After-fetch_add

pub returns-clause-pass : goal.returns-clause-pass
returns-clause-pass c = stays_pass c.requires.pass c.fetch_add.ensures.0 (ap whose (closed (goal.at.returns-clause-pass c).After-fetch_add))
