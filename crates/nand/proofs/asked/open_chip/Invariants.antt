use Rattle.std.proofs.Common.{◌≡◌}
use Rattle.nand.specs.Opening.{HasHeard, questions_left, opening_sectors, shape_of}
use Rattle.nand.specs.declared.flash.Fault.{Fault}
use Rattle.nand.proofs.asked.open_chip.Given as goal

abbrev pub invariant-loop-question : goal.invariant-loop-question
invariant-loop-question g l = record {
  flash : g.N.Nand.flash l.nand ≡ g.N.Nand.flash l.fn.nand;
  chip : g.N.Nand.shape l.nand ≡ g.N.Nand.shape l.fn.nand;
  bad : g.N.Nand.bad l.nand ≡ g.N.Nand.bad l.fn.nand;
  tally : g.N.Nand.tally l.nand ≡ g.N.Nand.tally l.fn.nand;
  faults : (cause : Fault) → g.N.Nand.faults l.nand cause ≡ g.N.Nand.faults l.fn.nand cause;
  shape : shape_of l.opening ≡ g.N.Nand.shape l.fn.nand;
  sectors : opening_sectors l.opening ≡ l.fn.sectors;
  read : HasHeard (g.N.Nand.flash l.fn.nand) (g.N.Nand.bad l.fn.nand) l.opening;
}

abbrev pub decreases-loop-question : goal.decreases-loop-question
decreases-loop-question g l = questions_left l.opening
