use Rattle.flash_table.proofs.{Permissions.whose, Permissions.of_broom, Blocks.just_now, Blocks.erased_just}
use Rattle.std.proofs.Common.{◌≡◌, ap, ◌∙◌, arith}
use Rattle.flash_table.specs.{Flash.broom_view, GivingUp.left_free}
use Rattle.flash_table.proofs.{BroomResults.stays_broom, BroomSteps.freed_here}
use Rattle.flash_table.proofs.BroomResults.{same_erased, live_on, can_renew, freed_view}
use Rattle.flash_table.proofs.flash.Flash.free_block.Goals as goal
use Rattle.flash_table.proofs.flash.Flash.free_block.Goals.{After-fetch_add}

pub fetch_add-requires : goal.fetch_add-requires
fetch_add-requires c =
    let o = c.in-Erasing.erased in
    let t = live_on c.requires.broom o c.in-Erasing.is c.requires.wiped in
    freed_here (of_broom c.requires.broom) _ _ t.erases.low c.pin_at-word.ensures (omega (arith, c.freed.ensures)) (can_renew c.requires.broom o t)

freed : (c : After-fetch_add) → c.fetch_add.new.seat.me.0 ≡ left_free (broom_view c.args.broom.now) c.in-Erasing.erased
freed c =
    let o = c.in-Erasing.erased in
    freed_view c.requires.broom c.freed.result o (live_on c.requires.broom o c.in-Erasing.is c.requires.wiped) c.pin_at-word.ensures c.fetch_add.ensures.2

pub invariant_of-broom-clause-owns : goal.invariant_of-broom-clause-owns
invariant_of-broom-clause-owns c =
    just_now (freed (goal.at.invariant_of-broom-clause-owns c).After-fetch_add) (erased_just _ c.args.broom.now.owns c.in-Erasing.is)

pub returns-clause-freed : goal.returns-clause-freed
returns-clause-freed c x is =
    freed (goal.at.returns-clause-freed c).After-fetch_add
    ∙ ap (left_free (broom_view c.args.broom.now)) (same_erased c.in-Erasing.is is)

pub returns-clause-broom : goal.returns-clause-broom
returns-clause-broom c = stays_broom c.requires.broom c.fetch_add.ensures.0 (ap whose (freed (goal.at.returns-clause-broom c).After-fetch_add))
