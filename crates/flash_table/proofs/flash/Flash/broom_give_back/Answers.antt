use Rattle.flash_table.proofs.{Permissions.of_broom, PassSteps.give_here}
use Rattle.flash_table.proofs.flash.Flash.broom_give_back.Goals as goal

pub split_seat-seat-requires : goal.split_seat-seat-requires
split_seat-seat-requires c = give_here (of_broom c.requires.broom) c.requires.guest
