use Rattle.nand.proofs.Pages.{KeepsVersions}
use Rattle.nand.proofs.cells.lose.Given as goal

abbrev pub invariant-loop-page : goal.invariant-loop-page
invariant-loop-page l = KeepsVersions l.initial.page-items l.page-items
