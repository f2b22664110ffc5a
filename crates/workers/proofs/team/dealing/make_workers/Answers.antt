use Rattle.std.proofs.{Common.length, Common.sym, Common.ap, Common.◌∙◌, Common.subst, Common.arith}
use Rattle.flash_table.specs.{declared.pass.Pass.Pass, Flash.geometry_of}
use Rattle.host.specs.Ready.{IsReady}
use Rattle.volume.specs.{declared.volume.Volume.Volume, Volume.flash_of}
use Rattle.volume.proofs.FreshBrooms.{taken}
use Rattle.workers.specs.{declared.worker.Worker.Worker, declared.worker.share.Share.Share, Meetings.IsAt}
use Rattle.workers.specs.Dealing.{HasFitShare, HasPlayedNone, IsOwner, work_in, work_of}
use Rattle.workers.proofs.WorkerRows.{moved, moved_in, pushed_all}
use Rattle.workers.proofs.team.dealing.make_workers.Goals as goal

pub make_worker-requires-clause-ready : goal.make_worker-requires-clause-ready
make_worker-requires-clause-ready c =
    let volume = c.args.volume.now in
    let pass = taken (IsReady (flash_of volume)) c.in-Some.pass c.pop_front.new.self.items c.loop-pass.passes.items c.in-Some.ensures.items
    c.loop-pass.invariant.ready in
    let owner = taken (IsOwner volume) c.in-Some-pop_front.owner c.pop_front-in-Some.new.self.items c.loop-pass.owners.items
    c.in-Some-pop_front.ensures.items c.loop-pass.invariant.owners in
    subst (λ (v : Volume). IsReady (flash_of v) c.in-Some.pass) (sym owner.0) pass.0

pub make_worker-requires-clause-fit : goal.make_worker-requires-clause-fit
make_worker-requires-clause-fit c =
    let volume = c.args.volume.now in
    let owner = taken (IsOwner volume) c.in-Some-pop_front.owner c.pop_front-in-Some.new.self.items c.loop-pass.owners.items
    c.in-Some-pop_front.ensures.items c.loop-pass.invariant.owners in
    let share =
    taken (HasFitShare (geometry_of (flash_of volume))) c.in-Some-pop_front-2.share c.pop_front-in-Some-2.new.self.items c.loop-pass.shares.items
    c.in-Some-pop_front-2.ensures.items c.loop-pass.invariant.fit in
    subst (λ (v : Volume). HasFitShare (geometry_of (flash_of v)) c.in-Some-pop_front-2.share) (sym owner.0) share.0

pub loop-pass-preserved : goal.loop-pass-preserved
loop-pass-preserved c =
    let volume = c.args.volume.now in
    let was = c.loop-pass.invariant in
    let workers = c.loop-pass.workers.items in
    let more = c.push_reserved.new.self.items in
    let worker = c.make_worker.result in
    let pushed = c.push_reserved.ensures.items in
    let pass = taken (IsReady (flash_of volume)) c.in-Some.pass c.pop_front.new.self.items c.loop-pass.passes.items c.in-Some.ensures.items was.ready in
    let owner = taken (IsOwner volume) c.in-Some-pop_front.owner c.pop_front-in-Some.new.self.items c.loop-pass.owners.items
    c.in-Some-pop_front.ensures.items was.owners in
    let share =
    taken (HasFitShare (geometry_of (flash_of volume))) c.in-Some-pop_front-2.share c.pop_front-in-Some-2.new.self.items c.loop-pass.shares.items
    c.in-Some-pop_front-2.ensures.items was.fit in
    let fewer = ap (length {A = Pass}) c.in-Some.ensures.items in
    let less = ap (length {A = Share}) c.in-Some-pop_front-2.ensures.items in
    let owned = ap (λ l. length l) c.in-Some-pop_front.ensures.items in
    let shares_count = was.shares_count in
    let owners_count = was.owners_count in
    let room = was.room in
    let long = c.push_reserved.ensures.len in
    let kept = c.push_reserved.ensures.capacity in
    record {
      passes = moved_in (λ (p : Worker). p.pass) workers more c.loop-pass.passes.items c.pop_front.new.self.items c.args.passes.items worker
          c.in-Some.pass pushed c.in-Some.ensures.items c.make_worker.ensures.pass was.passes;
      work =
          moved work_of work_in workers more c.loop-pass.shares.items c.pop_front-in-Some-2.new.self.items _ worker c.in-Some-pop_front-2.share pushed
          c.in-Some-pop_front-2.ensures.items c.make_worker.ensures.work was.work;
      at = pushed_all (IsAt volume) workers more worker pushed was.at (c.make_worker.ensures.at ∙ owner.0);
      none = pushed_all HasPlayedNone workers more worker pushed was.none c.make_worker.ensures.none;
      ready = pass.1;
      fit = share.1;
      owners = owner.1;
      shares_count = omega arith;
      owners_count = omega arith;
      room = omega arith;
    }
