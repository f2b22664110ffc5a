use Rattle.flash_table.proofs.{Permissions.of_pass, PassSteps.lend_here}
use Rattle.flash_table.proofs.flash.Flash.lend.Goals as goal

pub split_seat-seat-requires : goal.split_seat-seat-requires
split_seat-seat-requires c = lend_here (of_pass c.requires.pass) c.requires.whole c.requires.alone
