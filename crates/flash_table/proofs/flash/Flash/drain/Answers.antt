use Rattle.flash_table.proofs.{Permissions.whose, Permissions.of_broom, BroomSteps.drain_here}
use Rattle.std.proofs.Common.{◌≡◌, ap, ◌∙◌}
use Rattle.geometry.specs.declared.words.Phase.TheVariants.{Victim}
use Rattle.flash_table.specs.{GivingUp.left_drained, Owning.reclaimed_as, Flash.broom_view}
use Rattle.flash_table.proofs.{Blocks.just_now, Blocks.drained_just, flash.Flash.drain.Goals.After-fetch_add}
use Rattle.flash_table.proofs.BroomResults.{stays_broom, draining_same, drain_can, drained_view}
use Rattle.flash_table.proofs.flash.Flash.drain.Goals as goal

pub fetch_add-requires : goal.fetch_add-requires
fetch_add-requires c =
    let o = c.in-Draining.victim in
    let can = drain_can c.requires.broom o c.in-Draining.is c.requires.emptied in
    drain_here (of_broom c.requires.broom) (reclaimed_as Victim o) can.0 c.pin_at-word.ensures can.1

drained : (c : After-fetch_add) → c.fetch_add.new.seat.me.0 ≡ left_drained (broom_view c.args.broom.now) c.in-Draining.victim
drained c =
    let o = c.in-Draining.victim in
    drained_view c.requires.broom o (drain_can c.requires.broom o c.in-Draining.is c.requires.emptied).1 c.pin_at-word.ensures c.fetch_add.ensures.2

pub invariant_of-broom-clause-owns : goal.invariant_of-broom-clause-owns
invariant_of-broom-clause-owns c =
    just_now (drained (goal.at.invariant_of-broom-clause-owns c).After-fetch_add) (drained_just _ c.args.broom.now.owns c.in-Draining.is)

pub returns-clause-drained : goal.returns-clause-drained
returns-clause-drained c e is =
    drained (goal.at.returns-clause-drained c).After-fetch_add
    ∙ ap (left_drained (broom_view c.args.broom.now)) (draining_same c.in-Draining.is is)

pub returns-clause-broom : goal.returns-clause-broom
returns-clause-broom c = stays_broom c.requires.broom c.fetch_add.ensures.0 (ap whose (drained (goal.at.returns-clause-broom c).After-fetch_add))
