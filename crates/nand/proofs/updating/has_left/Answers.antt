use Rattle.std.proofs.Common.{refl, sym, subst, true}
use Rattle.durable.specs.Retiring.{HasLeftVersion}
use Rattle.durable.specs.declared.command.Command.{Command}
use Rattle.nand.specs.Numbers.{chip_block, numbered}
use Rattle.nand.proofs.Readings.{has_version}
use Rattle.nand.proofs.updating.has_left.Goals as goal

pub returns-in-Ok-Version-clause-left : goal.returns-in-Ok-Version-clause-left
returns-in-Ok-Version-clause-left g c =
    let numbers = c.args.numbers.now in
    let flash = g.N.Nand.flash c.args.nand.now in
    let at = c.in-Program.at in
    let reads = rw (c.chip_page.ensures, c.in-Ok-Version.field-0-is) at c.in-Ok-Version.ensures.stamp in
    subst (λ (m : Command). HasLeftVersion (numbered numbers flash) m true) (sym c.in-Program.is)
    (has_version flash (chip_block numbers at.block) at.page (flash (chip_block numbers at.block) at.page) c.in-Ok-Version.field-0-0 refl reads)
