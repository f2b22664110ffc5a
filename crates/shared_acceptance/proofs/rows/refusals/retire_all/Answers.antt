use Rattle.std.proofs.{Common.Some, lemmas.List.Elements.All-pop}
use Rattle.volume.specs.Volume.{IsBroomReady}
use Rattle.shared_acceptance.proofs.rows.refusals.retire_all.Goals as goal

pub retire_broom-requires : goal.retire_broom-requires
retire_broom-requires c =
    (All-pop (IsBroomReady c.args.volume.now) c.loop-broom.brooms.items c.pop.new.self.items
    (Some c.in-Some.broom) c.in-Some.ensures.items c.loop-broom.invariant).1

pub loop-broom-preserved : goal.loop-broom-preserved
loop-broom-preserved c =
    (All-pop (IsBroomReady c.args.volume.now) c.loop-broom.brooms.items c.pop.new.self.items
    (Some c.in-Some.broom) c.in-Some.ensures.items c.loop-broom.invariant).0
