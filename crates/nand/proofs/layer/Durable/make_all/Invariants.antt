use Rattle.std.proofs.Common.{◌≡◌, List, length}
use Rattle.durable.specs.Updates.{Update}
use Rattle.nand.specs.Histories.{Leads}
use Rattle.nand.specs.Opened.{CanOpen, HasFailed, IsOpenLayer, layer_sectors}
use Rattle.nand.proofs.layer.Durable.make_all.Given as goal

abbrev pub invariant-loop-i : goal.invariant-loop-i
invariant-loop-i g l = record {
  sectors : layer_sectors l.layer ≡ l.fn.sectors;
  shape : g.N.Nand.shape l.layer.nand ≡ g.N.Nand.shape l.fn.nand;
  made : length l.acknowledged.items ≡ l.i;
  leads : (before : List Update) → CanOpen g.N.Nand.flash g.N.Nand.shape g.N.Nand.bad l.fn.nand l.fn.sectors before
      → (after : List Update)
      × Leads (HasFailed g.N.Nand.flash g.N.Nand.shape g.N.Nand.bad g.N.Nand.faults) l.fn.changes l.acknowledged.items before after
      × IsOpenLayer g.N.Nand.flash g.N.Nand.shape g.N.Nand.bad l.layer after;
}
