use Rattle.std.proofs.Common.{Bool, sym, ap, subst, arith, if◌then◌else◌}
use Rattle.durable.specs.Retiring.{HasLeftVersion}
use Rattle.durable.specs.Updates.{array_after, changed}
use Rattle.nand.specs.Driving.{array_now}
use Rattle.nand.specs.Numbers.{numbered}
use Rattle.nand.proofs.Driven.{job_makes, job_value, knows_alike, knows_program, left_is_done, numbered_cut, readable_known, readable_left, reads_alike}
use Rattle.nand.proofs.driver.Driver.give_up.Goals as goal

pub returns-then-left-clause-holds : goal.returns-then-left-clause-holds
returns-then-left-clause-holds c f t value was v knows is cut has =
    let old = c.args.self.now in
    let job = c.args.job in
    let m = c.args.command in
    let ns = old.numbers.items in
    let array = array_now old value was in
    let last = c.requires.left c.if-left.true in
    let left = numbered_cut ns knows.apart f t m job value v (job_value f old job value was v is) cut in
    let done = left_is_done (numbered ns f) (numbered ns t) old.core (array_after knows.consistent.updates) knows.consistent.represents job.extent v m last
    c.requires.next left (subst (HasLeftVersion (numbered ns t) m) c.if-left.true has) in
    readable_known t ns c.done.new.self old.spare old.good (changed was old.call value)
    (knows_alike t ns c.done.new.self old.spare old.good (changed array job.extent v) (changed was old.call value)
    (knows_program f t ns old.core c.done.new.self old.spare old.good array knows m job.extent v c.requires.within c.requires.next done
    c.done.ensures.acknowledges c.done.ensures.device (omega (arith, old.after_use, old.before_reserve)) last)
    (job_makes f old job value was v is))

pub returns-else-left-clause-holds : goal.returns-else-left-clause-holds
returns-else-left-clause-holds c f t value was v knows is cut has =
    let old = c.args.self.now in
    let job = c.args.job in
    let m = c.args.command in
    let ns = old.numbers.items in
    let array = array_now old value was in
    let left = numbered_cut ns knows.apart f t m job value v (job_value f old job value was v is) cut in
    reads_alike t ns old.core array _
    (λ k. ap (λ (b : Bool). if b then changed was old.call value k else was k) (sym c.unless_made-self.ensures.same))
    (readable_left f t ns old.core old.spare old.good array knows m job.extent v c.requires.within c.requires.next left
    (subst (HasLeftVersion (numbered ns t) m) c.if-left.false has))
