use Rattle.std.proofs.Common.{ℕ, ◌++◌, All, length, map, sym, ap, subst, arith}
use Rattle.std.specs.{Prelude.Vec, Arc.arc_value, Global.Global}
use Rattle.std.proofs.lemmas.List.Elements.{All-nil}
use Rattle.volume.proofs.FreshBrooms.{taken}
use Rattle.rounds.specs.Plans.{items_of}
use Rattle.workers.specs.Dealing.{AreDoable, HasFitShare, work_in, with_commands}
use Rattle.workers.proofs.WorkerRows.{moved, pushed_all}
use Rattle.workers.proofs.worker.share.make_shares.Goals as goal

pub loop-row-init : goal.loop-row-init
loop-row-init c =
    let cs = arc_value c.args.commands.now in
    let geo = c.args.geometry.now in
    let none = c.in_ok-shares.ensures.items in
    let rows = c.from_vec-places.ensures.items in
    record {
      work = (λ i. map work_in (none i) ++ map (with_commands cs) (rows i));
      fit = subst (All (HasFitShare geo)) (sym none) (All-nil (HasFitShare geo));
      doable = subst (All (λ row. AreDoable geo cs (items_of row))) (sym rows) c.requires;
      room = (let long = c.in_ok-shares.ensures.len in let cap = c.in_ok-shares.ensures.capacity in let n = ap (length {A = Vec ℕ Global}) rows in
          let m = c.len.ensures in let r = c.args.places.ok.0 in omega arith);
    }

pub make_share-requires : goal.make_share-requires
make_share-requires c =
    (taken (λ row. AreDoable c.args.geometry.now (arc_value c.args.commands.now) (items_of row)) c.in-Some.row c.pop_front.new.self.items
    c.loop-row.places.items c.in-Some.ensures.items c.loop-row.invariant.doable).0

pub loop-row-preserved : goal.loop-row-preserved
loop-row-preserved c =
    let cs = arc_value c.args.commands.now in
    let geo = c.args.geometry.now in
    let was = c.loop-row.invariant in
    let shares = c.loop-row.shares.items in
    let more = c.push_reserved.new.self.items in
    let share = c.in_ok-make_share.field-0 in
    let pushed = c.push_reserved.ensures.items in
    let popped = c.in-Some.ensures.items in
    let fewer = ap (length {A = Vec ℕ Global}) popped in
    let room = was.room in
    let long = c.push_reserved.ensures.len in
    let kept = c.push_reserved.ensures.capacity in
    record {
      work = moved work_in (with_commands cs) shares more c.loop-row.places.items c.pop_front.new.self.items _ share c.in-Some.row pushed popped
          c.in_ok-make_share.ensures.work was.work;
      fit = pushed_all (HasFitShare geo) shares more share pushed was.fit c.in_ok-make_share.ensures.fit;
      doable = (taken (λ row. AreDoable geo cs (items_of row)) c.in-Some.row c.pop_front.new.self.items c.loop-row.places.items popped was.doable).1;
      room = omega arith;
    }
