use Rattle.std.proofs.Common.{◌≡◌, ℕ, get_or}
use Rattle.durable.specs.Flash.{Erased}
use Rattle.nand.specs.Cells.{flash_in}
use Rattle.nand.specs.declared.cells.Page.TheVariants as page
use Rattle.nand.proofs.chip.Chip.new.Given as goal

abbrev pub invariant-loop : goal.invariant-loop
invariant-loop l = (b p : ℕ) → flash_in l.blocks.items b p ≡ Erased

abbrev pub invariant-loop-2 : goal.invariant-loop-2
invariant-loop-2 l = record {
  blocks : (b p : ℕ) → flash_in l.blocks.items b p ≡ Erased;
  pages : (p : ℕ) → get_or l.pages.items p page.Erased ≡ page.Erased;
}
