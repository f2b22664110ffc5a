use Rattle.std.proofs.Common.{◌≡◌, inl, inr, ◌≤◌, ◌+◌, ℕ, true, false, refl, sym, ◌∙◌, subst, arith}
use Rattle.std.proofs.lemmas.Bool.{false≢true}
use Rattle.durable.specs.Device.{Device, device_of}
use Rattle.durable.specs.Failures.{swapped}
use Rattle.durable.specs.Updates.{changed}
use Rattle.durable.proofs.Retired.{block_in_use}
use Rattle.nand.specs.Driving.{IsLeftIn, IsStillGood, array_now}
use Rattle.nand.specs.Numbers.{chip_block, numbered}
use Rattle.nand.specs.declared.driver.Phase.{Phase}
use Rattle.nand.proofs.Driven.{failed_out, given_up_swapped, job_makes, job_stays, job_value, knows_alike, knows_left, knows_without}
use Rattle.nand.proofs.Driven.{made_now, numbered_cut, page_stays, stays_over}
use Rattle.nand.proofs.Driven.{stays_retired, stays_same}
use Rattle.nand.proofs.driver.Driver.replace.Goals as goal

pub returns-then-spare-self-clause-holds : goal.returns-then-spare-self-clause-holds
returns-then-spare-self-clause-holds c f t value was v knows is cut has = c.give_up.ensures.holds f t value was v knows is cut has

pub returns-then-not-retire-clause-holds : goal.returns-then-not-retire-clause-holds
returns-then-not-retire-clause-holds c f t value was v knows is cut has =
    let old = c.args.self.now in
    absurd (false≢true (sym c.if-not-retire.true ∙ c.retire.ensures.accepts (numbered old.numbers.items f) knows.updates knows.updates knows.consistent
    (knows.blank old.spare (omega arith) c.if-spare-self.false) (omega (arith, old.after_use, old.before_reserve))
    (omega (arith, c.if-spare-self.false, knows.fits)) c.requires.some))

pub returns-then-not-retire-clause-stays : goal.returns-then-not-retire-clause-stays
returns-then-not-retire-clause-stays c = stays_over c.args.self.now _ c.give_up-then-not-retire.new.self
    (stays_same c.args.self.now _ refl c.retire.ensures.device c.retire.ensures.losses refl refl refl refl) c.give_up-then-not-retire.ensures.stays

pub returns-then-left-clause-holds : goal.returns-then-left-clause-holds
returns-then-left-clause-holds c f t value was v knows is cut has =
    let old = c.args.self.now in
    let new = c.made.new.self in
    let job = c.args.job in
    let m = c.args.command in
    let ns = old.numbers.items in
    let now = c.exchange.new.numbers.items in
    let array = array_now old value was in
    let number = c.changed_block.result in
    let changes = c.changed_block.ensures c.requires.some in
    let used = block_in_use old.core m number c.requires.next changes in
    let past : old.core.blocks ≤ old.spare = omega (arith, old.after_use, old.before_reserve) in
    let swap : (d : ℕ) → chip_block now d ≡ chip_block ns (swapped number old.spare d) = c.exchange.ensures.swapped
    (omega (arith, used, past, c.if-spare-self.false, old.numbered)) (omega (arith, c.if-spare-self.false, old.numbered)) in
    let left = numbered_cut ns knows.apart f t m job value v (job_value f old job value was v is) cut in
    c.made.ensures.holds t value was
    (knows_alike t now c.retire.new.self (old.spare + 1) old.good (changed array job.extent v) (array_now new value was)
    (knows_left f t ns now old.core c.retire.new.self old.spare old.good array knows m job.extent v c.args.left number changes c.requires.within
    c.requires.next left has (c.if-not-retire.ensures.retires refl) c.retire.ensures.device past swap c.if-left.true (c.requires.left c.if-left.true))
    (λ k. job_makes f old job value was v is k ∙ made_now old new value was k c.made.ensures.stays.call c.made.ensures.made))

pub returns-then-left-clause-stays : goal.returns-then-left-clause-stays
returns-then-left-clause-stays c =
    let old = c.args.self.now in
    let number = c.changed_block.result in
    let used = block_in_use old.core c.args.command number c.requires.next (c.changed_block.ensures c.requires.some) in
    let past : old.core.blocks ≤ old.spare = omega (arith, old.after_use, old.before_reserve) in
    let swap : (d : ℕ) → chip_block c.exchange.new.numbers.items d ≡ chip_block old.numbers.items (swapped number old.spare d) =
    c.exchange.ensures.swapped (omega (arith, used, past, c.if-spare-self.false, old.numbered)) (omega (arith, c.if-spare-self.false, old.numbered)) in
    stays_over old _ c.made.new.self
    (stays_retired old _ number refl c.retire.ensures.device c.retire.ensures.losses used past c.if-spare-self.false refl refl refl swap)
    c.made.ensures.stays

pub returns-else-left-clause-holds : goal.returns-else-left-clause-holds
returns-else-left-clause-holds c f t value was v knows is cut has =
    let old = c.args.self.now in
    let job = c.args.job in
    let m = c.args.command in
    let ns = old.numbers.items in
    let now = c.exchange.new.numbers.items in
    let array = array_now old value was in
    let number = c.changed_block.result in
    let changes = c.changed_block.ensures c.requires.some in
    let used = block_in_use old.core m number c.requires.next changes in
    let past : old.core.blocks ≤ old.spare = omega (arith, old.after_use, old.before_reserve) in
    let swap : (d : ℕ) → chip_block now d ≡ chip_block ns (swapped number old.spare d) = c.exchange.ensures.swapped
    (omega (arith, used, past, c.if-spare-self.false, old.numbered)) (omega (arith, c.if-spare-self.false, old.numbered)) in
    let left = numbered_cut ns knows.apart f t m job value v (job_value f old job value was v is) cut in
    c.choose.ensures.holds t value was v
    (knows_without f t ns now old.core c.retire.new.self old.spare old.good array knows m job.extent v c.args.left number changes c.requires.within
    c.requires.next left has (c.if-not-retire.ensures.retires refl) c.retire.ensures.device past swap c.if-left.false) (
      is.0,
      job_stays f t old.outcome old.call ns now old.core.blocks (device_of c.retire.new.self).blocks old.spare (old.spare + 1) old.good job value was v
          (λ b out d good. given_up_swapped ns now old.core.blocks old.spare old.good number b used past c.if-spare-self.false swap out d
          (subst (λ (device : Device). IsStillGood device.blocks (old.spare + 1) old.good d) c.retire.ensures.device good))
          (λ b p out. page_stays ns old.core old.spare old.good f t m job value b p c.requires.next cut out) job.main is.1,
    )

pub returns-else-left-clause-stays : goal.returns-else-left-clause-stays
returns-else-left-clause-stays c =
    let old = c.args.self.now in
    let number = c.changed_block.result in
    let used = block_in_use old.core c.args.command number c.requires.next (c.changed_block.ensures c.requires.some) in
    let past : old.core.blocks ≤ old.spare = omega (arith, old.after_use, old.before_reserve) in
    let swap : (d : ℕ) → chip_block c.exchange.new.numbers.items d ≡ chip_block old.numbers.items (swapped number old.spare d) =
    c.exchange.ensures.swapped (omega (arith, used, past, c.if-spare-self.false, old.numbered)) (omega (arith, c.if-spare-self.false, old.numbered)) in
    stays_over old _ c.choose.new.self
    (stays_retired old _ number refl c.retire.ensures.device c.retire.ensures.losses used past c.if-spare-self.false refl refl refl swap)
    c.choose.ensures.stays

pub returns-then-spare-self-clause-alone : goal.returns-then-spare-self-clause-alone
returns-then-spare-self-clause-alone c b one changes = inr (subst (λ (p : Phase). IsLeftIn p c.give_up.new.self.numbers.items
    (chip_block c.args.self.now.numbers.items b)) (sym c.give_up.ensures.phase) tt)

pub returns-then-not-retire-clause-alone : goal.returns-then-not-retire-clause-alone
returns-then-not-retire-clause-alone c b one changes = inr (subst (λ (p : Phase). IsLeftIn p c.give_up-then-not-retire.new.self.numbers.items
    (chip_block c.args.self.now.numbers.items b)) (sym c.give_up-then-not-retire.ensures.phase) tt)

pub returns-then-left-clause-alone : goal.returns-then-left-clause-alone
returns-then-left-clause-alone c b one its =
    let old = c.args.self.now in
    let number = c.changed_block.result in
    let changes = c.changed_block.ensures c.requires.some in
    let used = block_in_use old.core c.args.command number c.requires.next changes in
    let past : old.core.blocks ≤ old.spare = omega (arith, old.after_use, old.before_reserve) in
    inl (c.made.ensures.stays.given_up (chip_block old.numbers.items b)
    (failed_out old.numbers.items c.exchange.new.numbers.items c.args.command old.core c.retire.new.self old.spare old.good number b c.requires.next
    changes its one past c.retire.ensures.device
    (c.exchange.ensures.swapped (omega (arith, used, past, c.if-spare-self.false, old.numbered)) (omega (arith, c.if-spare-self.false, old.numbered)))))

pub returns-else-left-clause-alone : goal.returns-else-left-clause-alone
returns-else-left-clause-alone c b one its =
    let old = c.args.self.now in
    let number = c.changed_block.result in
    let changes = c.changed_block.ensures c.requires.some in
    let used = block_in_use old.core c.args.command number c.requires.next changes in
    let past : old.core.blocks ≤ old.spare = omega (arith, old.after_use, old.before_reserve) in
    inl (c.choose.ensures.stays.given_up (chip_block old.numbers.items b)
    (failed_out old.numbers.items c.exchange.new.numbers.items c.args.command old.core c.retire.new.self old.spare old.good number b c.requires.next
    changes its one past c.retire.ensures.device
    (c.exchange.ensures.swapped (omega (arith, used, past, c.if-spare-self.false, old.numbered)) (omega (arith, c.if-spare-self.false, old.numbered)))))

pub returns-then-not-retire-clause-reserve : goal.returns-then-not-retire-clause-reserve
returns-then-not-retire-clause-reserve c f array knows some =
    let old = c.args.self.now in
    absurd (false≢true (sym c.if-not-retire.true ∙ c.retire.ensures.accepts (numbered old.numbers.items f) knows.updates knows.updates knows.consistent
    (knows.blank old.spare (omega arith) some) (omega (arith, old.after_use, old.before_reserve))
    (omega (arith, some, knows.fits)) c.requires.some))
