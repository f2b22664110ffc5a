use Rattle.std.proofs.Common.{◌≡◌, ◌<◌, ◌≤◌, ◌∙◌, length, ap, arith, rules}
use Rattle.nand.proofs.Pages.{wipes_items}
use Rattle.nand.proofs.cells.erase.Goals as goal

pub returns-clause-erased : goal.returns-clause-erased
returns-clause-erased c _ =
    let old = c.args.blocks.now.items in
    let lt : c.args.block < length old = search rules in
    let pages = c.index_mut-pages.result.now in
    let same : length c.loop-page.page-items ≡ length pages.items = c.loop-page.auto.page-items ∙ ap length c.deref_mut-page-items.ensures.value in
    let end : length c.loop-page.page-items ≤ c.loop-page.page-index = omega (arith, c.loop-page.auto.page-items, c.loop-page-test.false) in
    wipes_items old c.args.block c.loop-page.page-index pages c.loop-page.page-items lt (same ∙ omega (arith, pages.ok)) end c.loop-page.invariant
