use Rattle.std.proofs.Common.{refl, sym, ◌∙◌, subst, arith}
use Rattle.durable.specs.Device.{Device, device_of}
use Rattle.nand.specs.Driving.{IsStillGood, array_now}
use Rattle.nand.proofs.Driven.{done_cut, job_makes, job_stays, job_value, knows_alike, knows_other, knows_program, made_now, numbered_done, page_stays}
use Rattle.nand.proofs.Driven.{stays_over, stays_same}
use Rattle.nand.proofs.driver.Driver.performed.Goals as goal

pub returns-then-is_last-clause-holds : goal.returns-then-is_last-clause-holds
returns-then-is_last-clause-holds c f t value was v knows is done =
    let old = c.args.self.now in
    let new = c.made.new.self in
    let job = c.args.job in
    let ns = old.numbers.items in
    let array = array_now old value was in
    let does = numbered_done ns knows.apart f t c.args.command job value v (job_value f old job value was v is) done in
    c.made.ensures.holds t value was
    (knows_alike t ns c.done.new.self old.spare old.good _ (array_now new value was)
    (knows_program f t ns old.core c.done.new.self old.spare old.good array knows c.args.command job.extent v c.requires.within c.requires.next does
    c.done.ensures.acknowledges c.done.ensures.device (omega (arith, old.after_use, old.before_reserve)) (sym c.is_last.ensures ∙ c.if-is_last.true))
    (λ k. job_makes f old job value was v is k ∙ made_now old new value was k c.made.ensures.stays.call c.made.ensures.made))

pub returns-else-is_last-clause-holds : goal.returns-else-is_last-clause-holds
returns-else-is_last-clause-holds c f t value was v knows is done =
    let old = c.args.self.now in
    let job = c.args.job in
    let m = c.args.command in
    let ns = old.numbers.items in
    let array = array_now old value was in
    let does = numbered_done ns knows.apart f t m job value v (job_value f old job value was v is) done in
    c.choose.ensures.holds t value was v
    (knows_other f t ns old.core c.done.new.self old.spare old.good array knows m job.extent v c.requires.within c.requires.next does
    c.done.ensures.acknowledges c.done.ensures.device (omega (arith, old.after_use, old.before_reserve)) (sym c.is_last.ensures ∙ c.if-is_last.false)) (
      is.0,
      job_stays f t old.outcome old.call ns ns old.core.blocks (device_of c.done.new.self).blocks old.spare old.spare old.good job value was v
          (λ b out d good. out d (subst (λ (device : Device). IsStillGood device.blocks old.spare old.good d) c.done.ensures.device good))
          (λ b p out. page_stays ns old.core old.spare old.good f t m job value b p c.requires.next (done_cut ns f t m job value done) out) job.main is.1,
    )

pub returns-then-is_last-clause-stays : goal.returns-then-is_last-clause-stays
returns-then-is_last-clause-stays c = stays_over c.args.self.now _ c.made.new.self
    (stays_same c.args.self.now _ refl c.done.ensures.device c.done.ensures.losses refl refl refl refl) c.made.ensures.stays

pub returns-else-is_last-clause-stays : goal.returns-else-is_last-clause-stays
returns-else-is_last-clause-stays c = stays_over c.args.self.now _ c.choose.new.self
    (stays_same c.args.self.now _ refl c.done.ensures.device c.done.ensures.losses refl refl refl refl) c.choose.ensures.stays
