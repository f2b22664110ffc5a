use Rattle.flash_table.proofs.{Permissions.of_pass, PassSteps.give_here}
use Rattle.flash_table.proofs.flash.Flash.give_back.Goals as goal

pub split_seat-seat-requires : goal.split_seat-seat-requires
split_seat-seat-requires c = give_here (of_pass c.requires.pass) c.requires.guest
