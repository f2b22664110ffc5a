use Rattle.std.proofs.Common.{◌≡◌, ◌∙◌, ℕ, Option, Some, Err, sym, ap, subst}
use Rattle.durable.specs.Device.{Device}
use Rattle.durable.specs.Promise.{IsRecoverable}
use Rattle.durable.specs.declared.fault.MountFault.TheVariants as mount_fault
use Rattle.durable.specs.declared.mount.Mount.{Mount}
use Rattle.nand.specs.Numbers.{IsOrder, numbered}
use Rattle.nand.specs.Opened.{most_used}
use Rattle.nand.specs.Opening.{HasNotedIn, HasNotedPages}
use Rattle.nand.specs.declared.opening.Opened.{Opened}
use Rattle.nand.proofs.Openings.{opens, recoverable_there}
use Rattle.nand.proofs.opening.Opening.finish.Goals as goal

pub returns-in-Ok-clause-opens : goal.returns-in-Ok-clause-opens
returns-in-Ok-clause-opens c f bad read =
    let old = c.args.self in
    let is : old.mount ≡ Some c.in-Some.mount = c.in-Some.is in
    let has : HasNotedPages f bad old.shape old.sectors old.numbers.items c.in-Some.mount =
    subst (λ (m : Option Mount). HasNotedIn f bad old.shape old.sectors old.numbers.items m) is read.noted in
    let opened : Opened = record { core = c.in-Ok.core; numbers = old.numbers; good = old.good } in
    opens f bad old.shape old.sectors opened c.in-Some.mount read.order read.good has c.in-Ok.ensures.device c.in-Ok.ensures.number c.in-Ok.ensures.own
    c.in-Ok.ensures.remounts c.in-Ok.ensures.tells c.in-Ok.ensures.quiet

pub returns-in-Err-clause-frees : goal.returns-in-Err-clause-frees
returns-in-Err-clause-frees c f bad acked begun read readable free =
    let old = c.args.self in
    let numbers = old.numbers.items in
    let is : old.mount ≡ Some c.in-Some.mount = c.in-Some.is in
    let has : HasNotedPages f bad old.shape old.sectors numbers c.in-Some.mount =
    subst (λ (m : Option Mount). HasNotedIn f bad old.shape old.sectors numbers m) is read.noted in
    let order = subst (λ (n : ℕ). IsOrder numbers bad n (most_used old.shape old.sectors)) has.all read.order in
    let there = recoverable_there f bad old.shape old.sectors numbers order acked begun readable free in
    let here = subst (λ (d : Device). IsRecoverable (numbered numbers f) d acked begun) (sym has.device) there in
    λ e. let why : c.in-Err.why ≡ mount_fault.NoFreeBlock = cc e in
    c.finish.ensures.frees (numbered numbers f) acked begun has.noted here (c.in-Err.is ∙ ap Err why)
