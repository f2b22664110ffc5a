use Rattle.std.proofs.Common.{ap, subst}
use Rattle.durable.specs.Flash.{Flash, SetsPage}
use Rattle.nand.specs.Cells.{flash_in}
use Rattle.nand.specs.Chip.{chip_flash}
use Rattle.nand.proofs.chip.ChipNand.copyback.Goals as goal

pub returns-clause-does : goal.returns-clause-does
returns-clause-does c _ =
    let f = chip_flash c.args.self.now in
    let t = chip_flash c.fill.new.self in (
      subst (λ (g : Flash). SetsPage f t c.args.to.block c.args.to.page (g c.args.from.block c.args.from.page)) (ap flash_in c.deref.ensures.value)
          (c.in_ok-fill.ensures.sets _ c.copied-page.ensures).0,
      tt,
    )
