use Rattle.std.specs.Vec.Iter.{into_iter_items}
use Rattle.volume.specs.Volume.{IsBroomReady}
use Rattle.volume.proofs.FreshBrooms.{taken}
use Rattle.workers.proofs.team.leaving.retire_brooms.Goals as goal

pub retire_broom-requires : goal.retire_broom-requires
retire_broom-requires c =
    (taken (IsBroomReady c.args.volume.now) c.in-Some.broom (into_iter_items c.next.new.self)
    (into_iter_items c.loop-broom.brooms) c.in-Some.ensures.cases.0 c.loop-broom.invariant).0

pub loop-broom-preserved : goal.loop-broom-preserved
loop-broom-preserved c = (taken (IsBroomReady c.args.volume.now) c.in-Some.broom (into_iter_items c.next.new.self)
    (into_iter_items c.loop-broom.brooms) c.in-Some.ensures.cases.0 c.loop-broom.invariant).1
