use Rattle.std.proofs.Common.{◌≡◌, ◌<◌, ◌∙◌, List, length, ap, subst, arith, rules}
use Rattle.nand.specs.declared.cells.Page.{Page}
use Rattle.nand.proofs.Pages.{KeepsVersions, loses_items}
use Rattle.nand.proofs.cells.lose.Goals as goal

pub returns : goal.returns
returns c =
    let old = c.args.blocks.now.items in
    let lt : c.args.block < length old = search rules in
    let pages = c.index_mut-pages.result.now in
    let same : length c.loop-page.page-items ≡ length pages.items = c.loop-page.auto.page-items ∙ ap length c.deref_mut-page-items.ensures.value in
    loses_items old c.args.block pages c.loop-page.page-items lt c.index_mut-pages.ensures.value (same ∙ omega (arith, pages.ok))
    (subst (λ (l : List Page). KeepsVersions l c.loop-page.page-items) c.deref_mut-page-items.ensures.value c.loop-page.invariant)
