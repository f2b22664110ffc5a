use Rattle.flash_table.proofs.{Permissions.of_broom, BroomSteps.broom_look_here, BroomResults.unpacked}
use Rattle.std.proofs.{Common.subst}
use Rattle.flash_rule.specs.BroomPlays.{Named}
use Rattle.flash_table.specs.Flash.{broom_view}
use Rattle.flash_table.proofs.flash.Flash.broom_look.Goals as goal

pub load-found-requires : goal.load-found-requires
load-found-requires c =
    let s = c.args.broom.now in broom_look_here (of_broom c.requires.broom) c.args.sector c.requires.sector

pub returns-clause-named : goal.returns-clause-named
returns-clause-named c =
    let told = c.load-found.ensures.2.1 in
    let word = unpacked c.unpack.result c.load-found.result c.unpack.ensures.some c.unpack.ensures.none (λ some. let t = told.page some in (t.0, t.2)) in
    subst (λ n. Named (broom_view c.args.broom.now) c.args.sector n c.load-found.new.seat.me.0) word told
