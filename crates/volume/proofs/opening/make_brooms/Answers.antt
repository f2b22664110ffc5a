use Rattle.std.proofs.{Common.◌≡◌, Common.None, Common.length, Common.sym, Common.ap, Common.arith, lemmas.List.length_push}
use Rattle.std.{proofs.lemmas.List.Elements.All-weaker, specs.Vec.Iter.into_iter_items}
use Rattle.flash_table.specs.declared.broom_seat.BroomSeat.{BroomSeat}
use Rattle.broom.specs.{declared.broom.Broom.Broom, Handing.aside_of, Ready.IsReady, Ready.IsRested}
use Rattle.volume.{specs.Volume.IsFresh, proofs.FreshBrooms.taken, proofs.FreshBrooms.one_made}
use Rattle.volume.proofs.opening.make_brooms.Goals as goal

pub loop-seat-preserved : goal.loop-seat-preserved
loop-seat-preserved c =
    let f = c.args.flash.now in
    let made = c.in-Ok-new.ensures in
    let next = c.in-Some.ensures.cases.0 in
    let pushed = c.push_reserved.ensures.items in
    let fewer = ap (length {A = BroomSeat}) next in
    let more = ap (length {A = Broom}) pushed in
    let room = c.loop-seat.invariant.1 in
    let kept = c.push_reserved.ensures.capacity in (
      one_made f c.args.queue.now c.args.seats.items (into_iter_items c.loop-seat.seats)
          (into_iter_items c.next.new.self) c.loop-seat.places.items c.pop.new.self.items c.loop-seat.brooms.items c.push_reserved.new.self.items
          c.in-Some.seat c.in-Some-pop.place
          c.in-Ok-new.broom c.loop-seat.invariant.0 next c.in-Some-pop.ensures.items pushed made.view made.blocks made.queue
          (made.ready f (sym c.geometry.ensures)) made.unmarked,
      omega (arith, length_push c.loop-seat.brooms.items c.in-Ok-new.broom),
    )

pub fold_seat-requires : goal.fold_seat-requires
fold_seat-requires c =
    let f = c.args.flash.now in
    c.in-Err.ensures.refused.2 f
    (taken (IsRested f) c.in-Some.seat (into_iter_items c.next.new.self)
    (into_iter_items c.loop-seat.seats) c.in-Some.ensures.cases.0 c.loop-seat.invariant.0.rested).0

pub fold_seats-requires-in-Err : goal.fold_seats-requires-in-Err
fold_seats-requires-in-Err c =
    (taken (IsRested c.args.flash.now) c.in-Some.seat (into_iter_items c.next.new.self)
    (into_iter_items c.loop-seat.seats) c.in-Some.ensures.cases.0 c.loop-seat.invariant.0.rested).1

-- brooms that were just made are ready, and have nothing set aside
pub fold_all-requires : goal.fold_all-requires
fold_all-requires c =
    let f = c.args.flash.now in
    let Ends : Broom → Type 0 = λ b. IsReady f b × (aside_of b ≡ None) in
    All-weaker (IsFresh f c.args.queue.now) Ends (λ b h. (h.ready, h.aside)) c.loop-seat.brooms.items c.loop-seat.invariant.0.fresh
