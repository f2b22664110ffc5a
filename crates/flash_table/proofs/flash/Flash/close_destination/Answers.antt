use Rattle.flash_table.proofs.{Permissions.whose, Permissions.of_broom, Blocks.just_now, PassSteps.close_here}
use Rattle.flash_table.proofs.{flash.Flash.close_destination.Goals.After-fetch_add}
use Rattle.std.proofs.Common.{◌≡◌, ap, ◌∙◌}
use Rattle.flash_table.specs.{Flash.broom_view, GivingUp.left_closed, Owning.owned_of}
use Rattle.flash_table.proofs.{BroomResults.stays_broom, Blocks.closed_just, PassResults.same_block, PassResults.close_can, PassResults.close_view}
use Rattle.flash_table.proofs.flash.Flash.close_destination.Goals as goal

pub fetch_add-requires : goal.fetch_add-requires
fetch_add-requires c =
    let can = close_can c.args.self.now.geometry (broom_view c.args.broom.now) c.in-Some.is c.requires.settled in
    close_here (of_broom c.requires.broom) (owned_of c.in-Some.opened) can.1 c.pin_at-word.ensures can.0

closed : (c : After-fetch_add) → c.fetch_add.new.seat.me.0 ≡ left_closed (broom_view c.args.broom.now) c.in-Some.opened
closed c =
    let can = close_can c.args.self.now.geometry (broom_view c.args.broom.now) c.in-Some.is c.requires.settled in
    close_view (of_broom c.requires.broom) c.in-Some.opened can.0 c.pin_at-word.ensures c.fetch_add.ensures.2

pub invariant_of-broom-clause-owns : goal.invariant_of-broom-clause-owns
invariant_of-broom-clause-owns c =
    just_now (closed (goal.at.invariant_of-broom-clause-owns c).After-fetch_add) (closed_just _ c.args.broom.now.owns c.in-Some.is)

pub returns-clause-closed : goal.returns-clause-closed
returns-clause-closed c o is =
    closed (goal.at.returns-clause-closed c).After-fetch_add
    ∙ ap (left_closed (broom_view c.args.broom.now)) (same_block c.in-Some.is is)

pub returns-clause-broom : goal.returns-clause-broom
returns-clause-broom c = stays_broom c.requires.broom c.fetch_add.ensures.0 (ap whose (closed (goal.at.returns-clause-broom c).After-fetch_add))
