use Rattle.flash_table.proofs.{Permissions.of_pass, PassSteps.unpin_here}
use Rattle.flash_table.proofs.flash.Flash.unpin.Goals as goal

pub fetch_sub-requires : goal.fetch_sub-requires
fetch_sub-requires c = unpin_here (of_pass c.requires.pass) c.args.block c.requires.block c.pin_at-word.ensures c.requires.pass.role c.requires.pinned
