use Rattle.std.proofs.Common.{◌≡◌, ◌+◌, ◌%◌, ◌^◌, ◌∙◌, ℕ, ap, subst}
use Rattle.durable.specs.Flash.{Flash}
use Rattle.nand.specs.declared.flash.Fault.TheVariants as fault
use Rattle.nand.specs.Cells.{flash_in, reading_of}
use Rattle.nand.specs.Nand.{ReadsMain}
use Rattle.nand.proofs.chip.ChipNand.read.Goals as goal

pub returns-then-copy_main-clause-stamp : goal.returns-then-copy_main-clause-stamp
returns-then-copy_main-clause-stamp c =
    subst (λ (f : Flash). c.peek.result ≡ reading_of (f c.args.at.block c.args.at.page))
    (ap flash_in c.deref-then-copy_main.ensures.value ∙ c.look.ensures.no_command.flash) c.peek.ensures

pub returns-then-copy_main-clause-main : goal.returns-then-copy_main-clause-main
returns-then-copy_main-clause-main c =
    subst (λ (f : Flash). ReadsMain (f c.args.at.block c.args.at.page) c.copy_main.new.out)
    (ap flash_in c.deref.ensures.value ∙ c.look.ensures.no_command.flash) (c.copy_main.ensures c.if-copy_main.true)

pub returns-else-copy_main-clause-cause : goal.returns-else-copy_main-clause-cause
returns-else-copy_main-clause-cause c =
    (tt, (ap (λ (n : ℕ). (n + 1) % 2 ^ 64) (c.in-Ok.ensures.cause.0 fault.PowerGone), c.in-Ok.ensures.cause.0 fault.Failed))
