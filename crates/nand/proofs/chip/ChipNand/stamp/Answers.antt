use Rattle.std.proofs.Common.{◌≡◌, ◌∙◌, ap, subst}
use Rattle.durable.specs.Flash.{Flash}
use Rattle.nand.specs.Cells.{flash_in, reading_of}
use Rattle.nand.proofs.chip.ChipNand.stamp.Goals as goal

pub returns-in-Ok-clause-stamp : goal.returns-in-Ok-clause-stamp
returns-in-Ok-clause-stamp c =
    subst (λ (f : Flash). c.peek.result ≡ reading_of (f c.args.at.block c.args.at.page))
    (ap flash_in c.deref.ensures.value ∙ c.look.ensures.no_command.flash) c.peek.ensures
