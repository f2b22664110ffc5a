use Rattle.std.proofs.Common.{sym, ap}
use Rattle.nand.specs.Driving.{array_now, is_made}
use Rattle.nand.proofs.Driven.{knows_alike, made_now}
use Rattle.nand.proofs.driver.Driver.made.Goals as goal

pub returns-in-Some-clause-holds : goal.returns-in-Some-clause-holds
returns-in-Some-clause-holds c f value was knows =
    let old = c.args.self.now in
    let new = c.fetch.new.self in
    c.fetch.ensures.holds f value was
    (knows_alike f old.numbers.items old.core old.spare old.good (array_now new value was) _ knows
    (λ k. sym (made_now old new value was k c.fetch.ensures.stays.call (ap is_made c.fetch.ensures.made))))
