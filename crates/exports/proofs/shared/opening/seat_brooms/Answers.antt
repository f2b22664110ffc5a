use Rattle.std.proofs.Common.{◌∙◌, All, refl, subst, sym}
use Rattle.volume.specs.declared.volume.Volume.{Volume}
use Rattle.std.specs.Arc.{arc_value}
use Rattle.volume.specs.Volume.{IsBroomReady}
use Rattle.exports.specs.Opening.{IsFirstBroom, IsFreshBroom}
use Rattle.exports.proofs.DealtSeats.{taken_ready, taken_first, deal_goes_on}
use Rattle.exports.proofs.shared.opening.seat_brooms.Goals as goal

pub loop-broom-preserved : goal.loop-broom-preserved
loop-broom-preserved c =
    let Ready = IsBroomReady (arc_value c.args.volume.now) in let First = IsFirstBroom (arc_value c.args.volume.now) in
    let Fresh = IsFreshBroom (arc_value c.args.volume.now) in
    let first = (taken_first Ready First Fresh _ _ _ _ _ c.in-Some.ensures.items c.loop-broom.invariant).1 in
    deal_goes_on Ready First Fresh _ _ _ _ _ c.in-Some.ensures.items c.loop-broom.invariant c.len-at.result c.seat_broom.new.handle
    (c.len-at.ensures ∙ c.pop.new.self.ok.0) (c.in-Some.broom, first, c.if-not-seat_broom.ensures.seated refl)

pub seat_broom-requires-clause-broom : goal.seat_broom-requires-clause-broom
seat_broom-requires-clause-broom c =
    (taken_ready (IsBroomReady (arc_value c.args.volume.now)) (IsFirstBroom (arc_value c.args.volume.now))
    (IsFreshBroom (arc_value c.args.volume.now)) _ _ _ _ _ c.in-Some.ensures.items c.loop-broom.invariant).1

pub retire_brooms-requires : goal.retire_brooms-requires
retire_brooms-requires c =
    subst (λ (v : Volume). All (IsBroomReady v) c.pop.new.self.items) (sym c.deref.ensures)
    (taken_ready (IsBroomReady (arc_value c.args.volume.now)) (IsFirstBroom (arc_value c.args.volume.now))
    (IsFreshBroom (arc_value c.args.volume.now)) _ _ _ _ _ c.in-Some.ensures.items c.loop-broom.invariant).0
