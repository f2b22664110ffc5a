use Rattle.std.proofs.Common.{◌≡◌, ◌<◌, ℕ, get_or}
use Rattle.nand.specs.declared.cells.Page.TheVariants as page
use Rattle.nand.proofs.cells.erase.Given as goal

abbrev pub invariant-loop-page : goal.invariant-loop-page
invariant-loop-page l = (p : ℕ) → p < l.page-index → get_or l.page-items p page.Erased ≡ page.Erased
