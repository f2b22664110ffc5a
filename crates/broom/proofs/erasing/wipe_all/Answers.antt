use Rattle.broom.proofs.{Wiping.wiped_none}
use Rattle.broom.proofs.erasing.wipe_all.Goals as goal

pub loop-i-init : goal.loop-i-init
loop-i-init c = wiped_none c.args.flash.now c.args.seat.now c.requires.seat c.requires.none
