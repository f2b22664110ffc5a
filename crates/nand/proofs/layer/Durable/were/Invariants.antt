use Rattle.std.proofs.Common.{◌≡◌, ◌<◌, ◌≤◌, ℕ, List, None, Some, Ok}
use Rattle.geometry.specs.Sectors.{was_of}
use Rattle.geometry.specs.declared.answer.Was.TheVariants as was
use Rattle.durable.specs.Updates.{Update, array_after}
use Rattle.nand.specs.Stored.{stored_value}
use Rattle.nand.specs.Looks.{Looks}
use Rattle.nand.specs.Opened.{IsUnmounted, IsOpenLayer}
use Rattle.nand.proofs.layer.Durable.were.Given as goal

abbrev pub invariant-loop-sector : goal.invariant-loop-sector
invariant-loop-sector g l = record {
  from : l.fn.extent.first ≤ l.sector;
  empty : (updates : List Update) → IsOpenLayer g.N.Nand.flash g.N.Nand.shape g.N.Nand.bad l.fn.self updates
      → (k : ℕ) → l.fn.extent.first ≤ k → k < l.sector → was_of (array_after updates k) ≡ was.Empty;
  stored : (k : ℕ) → l.fn.extent.first ≤ k → k < l.sector → stored_value g.N.Nand.flash l.fn.self k ≡ Some None;
  closed : IsUnmounted l.fn.self → l.sector ≡ l.fn.extent.first;
  looks : Looks g.N.Nand.flash g.N.Nand.shape g.N.Nand.bad g.N.Nand.faults g.N.Nand.tally l.fn.self l.self (Ok was.Empty);
}
