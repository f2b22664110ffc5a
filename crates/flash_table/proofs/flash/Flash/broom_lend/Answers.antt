use Rattle.flash_table.proofs.{Permissions.of_broom, PassSteps.lend_here}
use Rattle.flash_table.proofs.flash.Flash.broom_lend.Goals as goal

pub split_seat-seat-requires : goal.split_seat-seat-requires
split_seat-seat-requires c = lend_here (of_broom c.requires.broom) c.requires.whole c.requires.alone
