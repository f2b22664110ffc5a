use Rattle.std.proofs.{Common.arith, lemmas.Grind.common_steps}
use Rattle.volume.proofs.ArrayLeft.{met_first, met_second}
use Rattle.broom.specs.Ready.{view_of_broom}
use Rattle.volume.proofs.volume.Volume.meet_brooms.Goals as goal

pub returns-clause-first_array : goal.returns-clause-first_array
returns-clause-first_array c =
    let left =
    met_first (view_of_broom c.args.first.now) (view_of_broom c.args.second.now) (view_of_broom c.meet_brooms.new.first)
    (view_of_broom c.meet_brooms.new.second) c.meet_brooms.ensures.met_brooms c.meet_brooms.ensures.first.rested.callers in
    grind (arith, common_steps, left)

pub returns-clause-second_array : goal.returns-clause-second_array
returns-clause-second_array c =
    let left =
    met_second (view_of_broom c.args.first.now) (view_of_broom c.args.second.now) (view_of_broom c.meet_brooms.new.first)
    (view_of_broom c.meet_brooms.new.second) c.meet_brooms.ensures.met_brooms c.meet_brooms.ensures.second.rested.callers in
    grind (arith, common_steps, left)
