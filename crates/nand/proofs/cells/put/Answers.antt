use Rattle.std.proofs.Common.{◌<◌, length, arith, rules}
use Rattle.std.proofs.lemmas.Grind.{common_steps}
use Rattle.nand.proofs.Pages.{puts_item}
use Rattle.nand.proofs.cells.put.Goals as goal

pub returns-clause-put : goal.returns-clause-put
returns-clause-put c _ =
    let old = c.args.blocks.now.items in
    let lt : c.args.at.block < length old = search rules in
    let within : c.args.at.page < length c.index_mut.result.now.items = grind (arith, common_steps) in
    puts_item old c.args.at.block c.args.at.page c.index_mut.result.now c.args.page lt c.index_mut.ensures.value within
