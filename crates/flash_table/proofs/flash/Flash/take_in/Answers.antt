use Rattle.flash_table.proofs.{Permissions.of_pass, PassSteps.take_in_here}
use Rattle.flash_table.proofs.flash.Flash.take_in.Goals as goal

pub join_seat-requires : goal.join_seat-requires
join_seat-requires c = take_in_here (of_pass c.requires.pass) c.args.note c.requires.note c.requires.lent c.requires.whole
