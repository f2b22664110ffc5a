use Rattle.std.proofs.{Common.length, Common.refl, Common.sym, Common.ap, Common.subst, Common.arith}
use Rattle.broom.specs.declared.broom.Broom.{Broom}
use Rattle.volume.specs.{declared.volume.Volume.Volume, Volume.IsBroomReady}
use Rattle.volume.proofs.FreshBrooms.{taken}
use Rattle.workers.specs.{Served.HasCountedNone, Served.broom_of, Dealing.IsOwner}
use Rattle.workers.proofs.WorkerRows.{moved_in, pushed_all}
use Rattle.workers.proofs.team.dealing.make_collectors.Goals as goal

pub invariant_of-push_reserved : goal.invariant_of-push_reserved
invariant_of-push_reserved c =
    let volume = c.args.volume.now in
    let broom = taken (IsBroomReady volume) c.in-Some.broom c.pop_front.new.self.items c.loop-broom.brooms.items c.in-Some.ensures.items
    c.loop-broom.invariant.ready in
    let owner = taken (IsOwner volume) c.in-Some-pop_front.volume c.pop_front-in-Some.new.self.items c.loop-broom.owners.items
    c.in-Some-pop_front.ensures.items c.loop-broom.invariant.owners in
    record { ready = subst (λ (v : Volume). IsBroomReady v c.in-Some.broom) (sym owner.0) broom.0 }

pub loop-broom-preserved : goal.loop-broom-preserved
loop-broom-preserved c =
    let volume = c.args.volume.now in
    let was = c.loop-broom.invariant in
    let broom = taken (IsBroomReady volume) c.in-Some.broom c.pop_front.new.self.items c.loop-broom.brooms.items c.in-Some.ensures.items was.ready in
    let owner = taken (IsOwner volume) c.in-Some-pop_front.volume c.pop_front-in-Some.new.self.items c.loop-broom.owners.items
    c.in-Some-pop_front.ensures.items was.owners in
    let fewer = ap (length {A = Broom}) c.in-Some.ensures.items in
    let owned = ap (λ l. length l) c.in-Some-pop_front.ensures.items in
    let count = was.count in
    let made = was.made in
    let room = was.room in
    let long = c.push_reserved.ensures.len in
    let kept = c.push_reserved.ensures.capacity in
    let collectors = c.loop-broom.collectors.items in
    let more = c.push_reserved.new.self.items in
    let pushed = c.push_reserved.ensures.items in
    record {
      brooms = moved_in broom_of collectors more c.loop-broom.brooms.items c.pop_front.new.self.items c.args.brooms.items _ c.in-Some.broom pushed
          c.in-Some.ensures.items refl was.brooms;
      none = pushed_all (HasCountedNone volume c.args.drains) collectors more _ pushed was.none (owner.0, refl, c.new.ensures);
      ready = broom.1;
      owners = owner.1;
      count = omega arith;
      made = omega arith;
      room = omega arith;
    }
