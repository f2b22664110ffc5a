use Rattle.std.proofs.Common.{◌∙◌}
use Rattle.nand.specs.Driving.{array_now}
use Rattle.nand.proofs.Driven.{knows_alike, knows_marked, made_now, now_made}
use Rattle.nand.proofs.driver.Driver.marked.Goals as goal

pub returns-clause-holds : goal.returns-clause-holds
returns-clause-holds c f t value was knows made free has loses =
    let old = c.args.self.now in
    let new = c.made.new.self in
    c.made.ensures.holds t value was
    (knows_alike t old.numbers.items old.core old.spare old.good (array_now old value was) (array_now new value was)
    (knows_marked f t old.numbers.items old.core old.spare old.good (array_now old value was) old.unmarked knows old.after_use free has loses)
    (λ k. now_made old value was k made ∙ made_now old new value was k c.made.ensures.stays.call c.made.ensures.made))
