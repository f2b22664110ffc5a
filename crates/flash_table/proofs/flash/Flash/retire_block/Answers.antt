use Rattle.flash_table.proofs.{Permissions.whose, Permissions.of_broom, Blocks.just_now, Blocks.erased_just}
use Rattle.std.proofs.Common.{◌≡◌, ap, ◌∙◌}
use Rattle.flash_table.specs.{Flash.broom_view, GivingUp.left_retired}
use Rattle.flash_table.proofs.{BroomSteps.retired_here, BroomResults.stays_broom, flash.Flash.retire_block.Goals.After-fetch_add}
use Rattle.flash_table.proofs.BroomResults.{same_erased, last_erase, can_retire, retired_view}
use Rattle.flash_table.proofs.flash.Flash.retire_block.Goals as goal

pub fetch_add-requires : goal.fetch_add-requires
fetch_add-requires c =
    let o = c.in-Erasing.erased in
    let t = last_erase c.requires.broom o c.in-Erasing.is c.requires.last in
    retired_here (of_broom c.requires.broom) _ t.erases.low c.pin_at-word.ensures (can_retire c.requires.broom o t)

retired : (c : After-fetch_add) → c.fetch_add.new.seat.me.0 ≡ left_retired (broom_view c.args.broom.now) c.in-Erasing.erased
retired c =
    let o = c.in-Erasing.erased in
    retired_view c.requires.broom o (last_erase c.requires.broom o c.in-Erasing.is c.requires.last) c.pin_at-word.ensures c.fetch_add.ensures.2

pub invariant_of-broom-clause-owns : goal.invariant_of-broom-clause-owns
invariant_of-broom-clause-owns c =
    just_now (retired (goal.at.invariant_of-broom-clause-owns c).After-fetch_add) (erased_just _ c.args.broom.now.owns c.in-Erasing.is)

pub returns-clause-retired : goal.returns-clause-retired
returns-clause-retired c x is =
    retired (goal.at.returns-clause-retired c).After-fetch_add
    ∙ ap (left_retired (broom_view c.args.broom.now)) (same_erased c.in-Erasing.is is)

pub returns-clause-broom : goal.returns-clause-broom
returns-clause-broom c = stays_broom c.requires.broom c.fetch_add.ensures.0 (ap whose (retired (goal.at.returns-clause-broom c).After-fetch_add))
