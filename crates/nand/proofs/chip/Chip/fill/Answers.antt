use Rattle.std.proofs.Common.{◌≡◌, ◌∙◌, Option, IfSome, inl, ap, subst}
use Rattle.durable.specs.Flash.{PageContents, SetsPage, Torn}
use Rattle.nand.specs.declared.flash.Fault.TheVariants as fault
use Rattle.nand.specs.declared.cells.Page.{Page}
use Rattle.nand.specs.Cells.{contents_of, flash_in}
use Rattle.nand.specs.Chip.{chip_flash}
use Rattle.nand.proofs.Chips.{ended, same_left, put_left, torn_left, whole_left}
use Rattle.nand.proofs.chip.Chip.fill.Goals as goal

pub returns-then-not-next-clause-sets : goal.returns-then-not-next-clause-sets
returns-then-not-next-clause-sets c x _ =
    let f = chip_flash c.args.self.now in
    let t = chip_flash c.failed.new.self in
    ended c.failed.result fault.Failed c.failed.ensures.failed f t c.args.at x
    (inl (same_left f t (c.failed.ensures.no_command.flash ∙ c.fate.ensures.same.flash)))

pub returns-else-put-clause-sets : goal.returns-else-put-clause-sets
returns-else-put-clause-sets c x _ =
    let f = chip_flash c.args.self.now in
    let t = chip_flash c.failed-in-Done.new.self in
    ended c.failed-in-Done.result fault.Failed c.failed-in-Done.ensures.failed f t c.args.at x
    (inl (same_left f t (c.failed-in-Done.ensures.no_command.flash ∙ (ap flash_in (c.put.ensures.same c.if-put.false) ∙ c.fate.ensures.same.flash))))

pub returns-in-Fails-clause-sets : goal.returns-in-Fails-clause-sets
returns-in-Fails-clause-sets c x _ =
    let f = chip_flash c.args.self.now in
    let g = chip_flash c.fate.new.self in
    let h = flash_in c.put-in-Fails.new.blocks.items in
    let t = chip_flash c.failed-in-Fails.new.self in
    ended c.failed-in-Fails.result fault.Failed c.failed-in-Fails.ensures.failed f t c.args.at x
    (torn_left f t c.args.at.block c.args.at.page x
    (put_left c.put-in-Fails.result f g h t c.args.at.block c.args.at.page Torn c.fate.ensures.same.flash c.put-in-Fails.ensures.put
    (λ e. ap flash_in (c.put-in-Fails.ensures.same e)) c.failed-in-Fails.ensures.no_command.flash))

pub returns-in-Cut-Nothing-clause-sets : goal.returns-in-Cut-Nothing-clause-sets
returns-in-Cut-Nothing-clause-sets c x _ =
    let f = chip_flash c.args.self.now in
    let t = chip_flash c.cut_off.new.self in
    ended c.cut_off.result fault.PowerGone c.cut_off.ensures.gone f t c.args.at x
    (inl (same_left f t (c.cut_off.ensures.no_command.flash ∙ c.fate.ensures.same.flash)))

pub returns-in-Cut-Part-clause-sets : goal.returns-in-Cut-Part-clause-sets
returns-in-Cut-Part-clause-sets c x _ =
    let f = chip_flash c.args.self.now in
    let g = chip_flash c.fate.new.self in
    let h = flash_in c.put-in-Cut-Part.new.blocks.items in
    let t = chip_flash c.cut_off-in-Cut-Part.new.self in
    ended c.cut_off-in-Cut-Part.result fault.PowerGone c.cut_off-in-Cut-Part.ensures.gone f t c.args.at x
    (torn_left f t c.args.at.block c.args.at.page x
    (put_left c.put-in-Cut-Part.result f g h t c.args.at.block c.args.at.page Torn c.fate.ensures.same.flash c.put-in-Cut-Part.ensures.put
    (λ e. ap flash_in (c.put-in-Cut-Part.ensures.same e)) c.cut_off-in-Cut-Part.ensures.no_command.flash))

pub returns-in_default-clause-sets : goal.returns-in_default-clause-sets
returns-in_default-clause-sets c x _ =
    let f = chip_flash c.args.self.now in
    let t = chip_flash c.failed-in_default.new.self in
    ended c.failed-in_default.result fault.Failed c.failed-in_default.ensures.failed f t c.args.at x
    (inl (same_left f t (c.failed-in_default.ensures.no_command.flash ∙ c.fate.ensures.same.flash)))

pub returns-in_default-page-clause-sets : goal.returns-in_default-page-clause-sets
returns-in_default-page-clause-sets c x _ =
    let f = chip_flash c.args.self.now in
    let t = chip_flash c.cut_off-in_default-page.new.self in
    ended c.cut_off-in_default-page.result fault.PowerGone c.cut_off-in_default-page.ensures.gone f t c.args.at x
    (inl (same_left f t (c.cut_off-in_default-page.ensures.no_command.flash ∙ c.fate.ensures.same.flash)))

pub returns-in-Some-page-clause-sets : goal.returns-in-Some-page-clause-sets
returns-in-Some-page-clause-sets c x is =
    let f = chip_flash c.args.self.now in
    let g = chip_flash c.fate.new.self in
    let h = flash_in c.put-in-Cut-Whole.new.blocks.items in
    let t = chip_flash c.cut_off-in-Cut-Whole.new.self in
    let held = subst (λ (o : Option Page). IfSome o (λ its. contents_of its ≡ x)) c.in-Some-page.is is in
    ended c.cut_off-in-Cut-Whole.result fault.PowerGone c.cut_off-in-Cut-Whole.ensures.gone f t c.args.at x
    (whole_left f t c.args.at.block c.args.at.page x
    (put_left c.put-in-Cut-Whole.result f g h t c.args.at.block c.args.at.page
    x c.fate.ensures.same.flash
    (λ e. subst (λ (k : PageContents). SetsPage g h c.args.at.block c.args.at.page k) held (c.put-in-Cut-Whole.ensures.put e))
    (λ e. ap flash_in (c.put-in-Cut-Whole.ensures.same e))
    c.cut_off-in-Cut-Whole.ensures.no_command.flash))
