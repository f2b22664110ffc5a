use Rattle.std.proofs.Common.{[], ◌-◌, ap, Err, refl, arith}
use Rattle.durable.specs.Device.{Device, device_of}
use Rattle.nand.specs.Numbers.{chip_block, good_before}
use Rattle.nand.proofs.Mounted.{has_blocks, remaining_causes}
use Rattle.nand.specs.Opened.{most_used}
use Rattle.nand.proofs.Orders.{erased_opens, lies, no_greater, spares_reserved}
use Rattle.nand.proofs.Replacing.{mounted_open}
use Rattle.nand.proofs.layer.Durable.open.Goals as goal

pub returns-in-Ok-clause-open : goal.returns-in-Ok-clause-open
returns-in-Ok-clause-open g c updates is =
    mounted_open g.N.Nand.flash g.N.Nand.shape g.N.Nand.bad c.args.nand _ c.args.sectors updates refl
    (c.open_chip.ensures.flash, c.open_chip.ensures.shape, c.open_chip.ensures.bad) c.in-Ok.ensures.opens.order c.in-Ok.ensures.opens.device
    c.in-Ok.ensures.opens.good is.blank (c.in-Ok.ensures.opens.consistent updates updates is.readable)

pub returns-in-Ok-clause-new : goal.returns-in-Ok-clause-new
returns-in-Ok-clause-new g c erased =
    let shape = g.N.Nand.shape c.args.nand in
    let bad = g.N.Nand.bad c.args.nand in
    let blocks = has_blocks c.args.sectors (good_before bad shape.blocks) shape.pages c.in-Ok.ensures.opens.capacity in
    returns-in-Ok-clause-open g c [] (erased_opens (g.N.Nand.flash c.args.nand) shape bad c.args.sectors erased blocks)

pub returns-in-Ok-clause-spares : goal.returns-in-Ok-clause-spares
returns-in-Ok-clause-spares g c n can =
    let shape = g.N.Nand.shape c.args.nand in
    let bad = g.N.Nand.bad c.args.nand in
    let used = ap (λ (d : Device). d.blocks) c.in-Ok.ensures.opens.device in
    spares_reserved shape bad c.args.sectors n (c.in-Ok.opened.good - (device_of c.in-Ok.opened.core).blocks) can (omega (
      arith,
      used,
      c.in-Ok.ensures.opens.good,
      (no_greater (good_before bad shape.blocks) (most_used shape c.args.sectors)).0,
    ))

pub returns-in-Ok-clause-tells : goal.returns-in-Ok-clause-tells
returns-in-Ok-clause-tells g c written = c.in-Ok.ensures.opens.tells written

pub returns-in-Ok-clause-quiet : goal.returns-in-Ok-clause-quiet
returns-in-Ok-clause-quiet g c updates is no_loss = c.in-Ok.ensures.opens.quiet updates updates is.readable no_loss

pub returns-in-Ok-clause-own : goal.returns-in-Ok-clause-own
returns-in-Ok-clause-own g c = λ b p e m v read within held.
    let shape = g.N.Nand.shape c.args.nand in
    let bad = g.N.Nand.bad c.args.nand in
    let numbers = c.in-Ok.opened.numbers.items in
    let there = lies numbers bad shape.blocks (most_used shape c.args.sectors) c.in-Ok.ensures.opens.order b read in
    c.in-Ok.ensures.opens.own (chip_block numbers b) p e m v there within held

pub returns-in-Err-clause-frees : goal.returns-in-Err-clause-frees
returns-in-Err-clause-frees g c updates is = λ e. c.in-Err.ensures.frees updates updates is.readable is.frees (ap Err e)

pub returns-in-Err-clause-begins : goal.returns-in-Err-clause-begins
returns-in-Err-clause-begins g c erased capacity =
    let shape = g.N.Nand.shape c.args.nand in
    let bad = g.N.Nand.bad c.args.nand in
    let blocks = has_blocks c.args.sectors (good_before bad shape.blocks) shape.pages capacity in
    let is = erased_opens (g.N.Nand.flash c.args.nand) shape bad c.args.sectors erased blocks in
    remaining_causes c.in-Err.why (λ e. c.in-Err.ensures.refused capacity (ap Err e))
    (λ e. c.in-Err.ensures.foreign is.readable.written (ap Err e))
    (λ e. c.in-Err.ensures.frees [] [] is.readable is.frees (ap Err e))
