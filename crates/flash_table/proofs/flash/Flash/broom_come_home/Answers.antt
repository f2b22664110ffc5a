use Rattle.flash_table.proofs.{Permissions.of_broom, PassSteps.home_here}
use Rattle.flash_table.proofs.flash.Flash.broom_come_home.Goals as goal

pub join_seat-requires : goal.join_seat-requires
join_seat-requires c = home_here (of_broom c.requires.broom) c.args.note c.requires.note c.requires.given
