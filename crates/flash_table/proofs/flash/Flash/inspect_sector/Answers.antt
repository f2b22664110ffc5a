use Rattle.flash_table.proofs.{Permissions.whose, Permissions.of_broom, Blocks.just_now, BroomSteps.inspect_here}
use Rattle.std.proofs.Common.{ap}
use Rattle.flash_table.proofs.BroomResults.{is_a_broom, stays_broom, inspected_by, inspected_changed}
use Rattle.flash_table.proofs.flash.Flash.inspect_sector.Goals as goal

pub load-found-requires : goal.load-found-requires
load-found-requires c =
    inspect_here (of_broom c.requires.broom) c.args.block c.args.sector c.args.state c.requires.sector (is_a_broom c.requires.broom) c.requires.next

pub invariant_of-broom-clause-owns : goal.invariant_of-broom-clause-owns
invariant_of-broom-clause-owns c =
    just_now ((inspected_changed _ _ _ _ _ _ (c.load-found.ensures.2.1 c.args.block c.args.state c.requires.next))) c.args.broom.now.owns

pub returns-clause-inspected : goal.returns-clause-inspected
returns-clause-inspected c =
    let told = c.load-found.ensures.2.1 c.args.block c.args.state c.requires.next in
    inspected_by _ _ _ _ _ _ told c.is_page_in.result (c.is_page_in.ensures told.found told.word told.fits)

pub returns-clause-broom : goal.returns-clause-broom
returns-clause-broom c =
    let changed = inspected_changed _ _ _ _ _ _ (c.load-found.ensures.2.1 c.args.block c.args.state c.requires.next) in
    stays_broom c.requires.broom c.load-found.ensures.0 (ap whose changed)
