use Rattle.std.proofs.Common.{◌∙◌, ap, refl}
use Rattle.exports.specs.Shared.{numbers_of}
use Rattle.exports.proofs.DealtSeats.{now_fresh}
use Rattle.exports.proofs.shared.opening.deal.Goals as goal

pub returns-clause-fresh : goal.returns-clause-fresh
returns-clause-fresh c _ =
    now_fresh _ _ _ _ (ap numbers_of c.in-Ok-new.ensures.ok ∙ c.in-Ok.ensures.geometry) (c.if-not-seat_hosts.ensures.seated refl)
    (c.if-not-seat_brooms.ensures.seated refl)
