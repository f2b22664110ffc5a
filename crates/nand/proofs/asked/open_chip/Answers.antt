use Rattle.std.proofs.Common.{◌≡◌, ◌∙◌, ℕ, Err, refl, sym, ap, subst}
use Rattle.durable.specs.Device.{IsWrittenOn}
use Rattle.durable.specs.Promise.{IsReadable}
use Rattle.durable.specs.declared.fault.MountFault.TheVariants as mount_fault
use Rattle.nand.specs.Opened.{CanFreeInUse, device_on}
use Rattle.nand.specs.Opening.{IsOpenedFrom, opening_sectors, shape_of}
use Rattle.nand.specs.declared.failure.OpenFailure.TheVariants as why
use Rattle.nand.specs.declared.flash.Shape.{Shape}
use Rattle.nand.proofs.asked.open_chip.Goals as goal

pub loop-question-init : goal.loop-question-init
loop-question-init g c = record {
  flash = refl;
  chip = refl;
  bad = refl;
  tally = refl;
  faults = λ cause. refl;
  shape = c.in-Ok.ensures.shape ∙ c.shape.ensures;
  sectors = c.in-Ok.ensures.sectors;
  read = c.in-Ok.ensures.reads (g.N.Nand.flash c.args.nand.now) (g.N.Nand.bad c.args.nand.now);
}

pub returns-in-Err-answer-clause-foreign : goal.returns-in-Err-answer-clause-foreign
returns-in-Err-answer-clause-foreign g c written =
    let inv = c.loop-question.invariant in
    let f = g.N.Nand.flash c.args.nand.now in
    let bad = g.N.Nand.bad c.args.nand.now in
    let opening = c.loop-question.opening in
    let there : IsWrittenOn (device_on (shape_of opening) bad (opening_sectors opening)) f =
    subst (λ (s : Shape). IsWrittenOn (device_on s bad (opening_sectors opening)) f) (sym inv.shape)
    (subst (λ (n : ℕ). IsWrittenOn (device_on (g.N.Nand.shape c.args.nand.now) bad n) f) (sym inv.sectors) written) in
    let foreign = rw (inv.flash, inv.bad) at c.answer.ensures.foreign in
    λ e. let is : c.in-Err-answer.cause ≡ why.Refused mount_fault.ForeignStamp = cc e in foreign inv.read there (c.in-Err-answer.is ∙ ap Err is)

pub returns-in-Ok-finish-clause-opens : goal.returns-in-Ok-finish-clause-opens
returns-in-Ok-finish-clause-opens g c =
    let inv = c.loop-question.invariant in
    let f = g.N.Nand.flash c.args.nand.now in
    let bad = g.N.Nand.bad c.args.nand.now in
    let opening = c.loop-question.opening in
    subst (λ (s : Shape). IsOpenedFrom f bad s c.args.sectors c.in-Ok-finish.opened) inv.shape
    (subst (λ (n : ℕ). IsOpenedFrom f bad (shape_of opening) n c.in-Ok-finish.opened) inv.sectors (c.in-Ok-finish.ensures.opens f bad inv.read))

pub returns-in-Err-finish-clause-frees : goal.returns-in-Err-finish-clause-frees
returns-in-Err-finish-clause-frees g c acked begun readable free =
    let inv = c.loop-question.invariant in
    let f = g.N.Nand.flash c.args.nand.now in
    let bad = g.N.Nand.bad c.args.nand.now in
    let shape = g.N.Nand.shape c.args.nand.now in
    let opening = c.loop-question.opening in
    let reads : IsReadable f (device_on (shape_of opening) bad (opening_sectors opening)) acked begun =
    subst (λ (s : Shape). IsReadable f (device_on s bad (opening_sectors opening)) acked begun) (sym inv.shape)
    (subst (λ (n : ℕ). IsReadable f (device_on shape bad n) acked begun) (sym inv.sectors) readable) in
    let frees : CanFreeInUse f (shape_of opening) bad (opening_sectors opening) =
    subst (λ (s : Shape). CanFreeInUse f s bad (opening_sectors opening)) (sym inv.shape)
    (subst (λ (n : ℕ). CanFreeInUse f shape bad n) (sym inv.sectors) free) in
    λ e. let is : c.failure-in-Err-finish.result ≡ why.Refused mount_fault.NoFreeBlock = cc e in
    c.finish.ensures.frees f bad acked begun inv.read reads frees
    (c.in-Err-finish.is ∙ ap Err (c.failure-in-Err-finish.ensures.cause mount_fault.NoFreeBlock is))
