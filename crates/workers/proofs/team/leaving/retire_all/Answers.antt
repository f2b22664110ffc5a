use Rattle.std.specs.Vec.Iter.{into_iter_items}
use Rattle.host.specs.Ready.{IsReady}
use Rattle.volume.specs.Volume.{flash_of}
use Rattle.volume.proofs.FreshBrooms.{taken}
use Rattle.workers.proofs.team.leaving.retire_all.Goals as goal

pub retire-requires : goal.retire-requires
retire-requires c = (taken (IsReady (flash_of c.args.volume.now)) c.in-Some.pass (into_iter_items c.next.new.self)
    (into_iter_items c.loop-pass.passes) c.in-Some.ensures.cases.0 c.loop-pass.invariant).0

pub loop-pass-preserved : goal.loop-pass-preserved
loop-pass-preserved c = (taken (IsReady (flash_of c.args.volume.now)) c.in-Some.pass (into_iter_items c.next.new.self)
    (into_iter_items c.loop-pass.passes) c.in-Some.ensures.cases.0 c.loop-pass.invariant).1
