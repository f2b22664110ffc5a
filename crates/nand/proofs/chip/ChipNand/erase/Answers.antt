use Rattle.std.proofs.Common.{◌∙◌, ap, subst}
use Rattle.durable.specs.Flash.{Flash}
use Rattle.nand.specs.declared.flash.Fault.TheVariants as fault
use Rattle.nand.specs.Cells.{flash_in, IsWiped}
use Rattle.nand.specs.Chip.{chip_flash}
use Rattle.nand.proofs.Chips.{kept_left}
use Rattle.nand.proofs.chip.ChipNand.erase.Goals as goal

pub returns-then-erase-clause-does : goal.returns-then-erase-clause-does
returns-then-erase-clause-does c _ =
    (subst (λ (k : Flash). IsWiped k (flash_in c.erase.new.blocks.items) c.args.block) c.fate.ensures.same.flash (c.erase.ensures.erased c.if-erase.true), tt)

pub returns-then-block-len-clause-does : goal.returns-then-block-len-clause-does
returns-then-block-len-clause-does c _ =
    kept_left c.failed.result fault.Failed c.failed.ensures.failed (chip_flash c.args.self.now) (chip_flash c.failed.new.self) c.args.block
    (c.failed.ensures.no_command.flash ∙ c.fate.ensures.same.flash)

pub returns-else-erase-clause-does : goal.returns-else-erase-clause-does
returns-else-erase-clause-does c _ =
    kept_left c.failed-in-Done.result fault.Failed c.failed-in-Done.ensures.failed (chip_flash c.args.self.now) (chip_flash c.failed-in-Done.new.self)
    c.args.block (c.failed-in-Done.ensures.no_command.flash ∙ (ap flash_in (c.erase.ensures.same c.if-erase.false) ∙ c.fate.ensures.same.flash))

pub returns-in-Cut-Nothing-clause-does : goal.returns-in-Cut-Nothing-clause-does
returns-in-Cut-Nothing-clause-does c _ =
    kept_left c.cut_off.result fault.PowerGone c.cut_off.ensures.gone (chip_flash c.args.self.now) (chip_flash c.cut_off.new.self) c.args.block
    (c.cut_off.ensures.no_command.flash ∙ c.fate.ensures.same.flash)
