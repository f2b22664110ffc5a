use Rattle.flash_table.proofs.{Permissions.of_broom, PassSteps.take_in_here}
use Rattle.flash_table.proofs.flash.Flash.broom_take_in.Goals as goal

pub join_seat-requires : goal.join_seat-requires
join_seat-requires c = take_in_here (of_broom c.requires.broom) c.args.note c.requires.note c.requires.lent c.requires.whole
