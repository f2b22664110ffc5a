use Rattle.flash_table.proofs.{Permissions.whose, Permissions.of_pass, PassSteps.count_here, flash.Flash.count.Goals.After-fetch_add}
use Rattle.std.proofs.Common.{◌≡◌, ◌+◌, ◌∷◌, ◌++◌, [], Some, ap, ◌∙◌}
use Rattle.flash_rule.specs.{declared.facts.Work.Work, declared.view.View.View, Plays.CanCount}
use Rattle.geometry.specs.Words.{pin_index}
use Rattle.flash_table.specs.{Flash.device, Flash.view_of, Owning.owned_of, declared.pass.OpenBlock.OpenBlock}
use Rattle.flash_table.proofs.PassResults.{same_block, stays_pass, count_can, count_view, pass_counted}
use Rattle.flash_table.proofs.flash.Flash.count.Goals as goal

pub fetch_add-requires : goal.fetch_add-requires
fetch_add-requires c =
    let can = count_can c.args.self.now.geometry (view_of c.args.pass.now) c.in-Some.is c.requires.filled in
    count_here (of_pass c.requires.pass) (owned_of c.in-Some.opened) can.0 can.3 c.pin_at-word.ensures can.1

counted : (c : After-fetch_add) (o : OpenBlock) (x : Work) → c.args.pass.now.opened ≡ Some o → CanCount (view_of c.args.pass.now) (owned_of o) x
    → c.fetch_add.new.seat.me.0 ≡ record (view_of c.args.pass.now) {
      programs = (view_of c.args.pass.now).programs ++ x.page ∷ [];
      owns = owned_of (record o { written = o.written + 1 }) ∷ [];
    }
counted c o x is can =
    pass_counted c.args.pass.now o is c.fetch_add.new.seat.me.0 x.page
    (count_view (of_pass c.requires.pass) o x can
    (c.pin_at-word.ensures ∙ ap (λ (y : OpenBlock). pin_index (device c.args.self.now) y.block) (same_block c.in-Some.is is)) c.fetch_add.ensures.2)

pub invariant_of-pass-clause-owns : goal.invariant_of-pass-clause-owns
invariant_of-pass-clause-owns c =
    let p = c.args.pass.now in
    let can = count_can c.args.self.now.geometry (view_of p) c.in-Some.is c.requires.filled in
    let changed = counted (goal.at.invariant_of-pass-clause-owns c).After-fetch_add c.in-Some.opened can.0 c.in-Some.is can.1 in
    ap (λ (w : View). w.owns) changed

pub returns-clause-counted : goal.returns-clause-counted
returns-clause-counted c = counted (goal.at.returns-clause-counted c).After-fetch_add

pub returns-clause-pass : goal.returns-clause-pass
returns-clause-pass c =
    let can = count_can c.args.self.now.geometry (view_of c.args.pass.now) c.in-Some.is c.requires.filled in
    let changed = counted (goal.at.returns-clause-pass c).After-fetch_add c.in-Some.opened can.0 c.in-Some.is can.1 in
    stays_pass c.requires.pass c.fetch_add.ensures.0 (ap whose changed)
