use Rattle.std.proofs.Common.{◌∙◌, refl}
use Rattle.std.specs.Arc.{arc_value}
use Rattle.host.specs.Ready.{IsReady}
use Rattle.volume.specs.Volume.{flash_of}
use Rattle.exports.specs.Opening.{IsFirstPass, IsFreshHost}
use Rattle.exports.proofs.DealtSeats.{taken_first, deal_goes_on}
use Rattle.exports.proofs.shared.opening.seat_hosts.Goals as goal

pub loop-pass-preserved : goal.loop-pass-preserved
loop-pass-preserved c =
    let Ready = IsReady (flash_of (arc_value c.args.volume.now)) in let First = IsFirstPass (arc_value c.args.volume.now) in
    let Fresh = IsFreshHost (arc_value c.args.volume.now) in
    let first = (taken_first Ready First Fresh _ _ _ _ _ c.in-Some.ensures.items c.loop-pass.invariant).1 in
    deal_goes_on Ready First Fresh _ _ _ _ _ c.in-Some.ensures.items c.loop-pass.invariant c.len-at.result c.seat_host.new.handle
    (c.len-at.ensures ∙ c.pop.new.self.ok.0) (c.in-Some.pass, first, c.if-not-seat_host.ensures.seated refl)
