use Rattle.std.proofs.Common.{◌≡◌, List}
use Rattle.durable.specs.Choice.{left}
use Rattle.durable.specs.Device.{device_of, losses_of, next_number_of}
use Rattle.durable.specs.Promise.{IsConsistent}
use Rattle.durable.specs.Updates.{Update}
use Rattle.nand.specs.Numbers.{IsOrder, numbered}
use Rattle.nand.specs.Opened.{IsOpenLayer, IsReserveBlank, layer_sectors, most_used}
use Rattle.nand.specs.declared.flash.Fault.{Fault}
use Rattle.nand.proofs.Programs.{HasNoNew, HasSpent}
use Rattle.nand.proofs.layer.Durable.attempt.Given as goal

abbrev pub invariant-loop-self : goal.invariant-loop-self
invariant-loop-self g l = record {
  mounted : l.self.mounted ≡ l.fn.self.mounted;
  shape : g.N.Nand.shape l.self.nand ≡ g.N.Nand.shape l.fn.self.nand;
  bad : g.N.Nand.bad l.self.nand ≡ g.N.Nand.bad l.fn.self.nand;
  device : device_of l.self.core ≡ device_of l.fn.self.core;
  losses : losses_of l.self.core ≡ losses_of l.fn.self.core;
  number : next_number_of l.self.core ≡ next_number_of l.fn.self.core;
  faults : (cause : Fault) → g.N.Nand.faults l.self.nand cause ≡ g.N.Nand.faults l.fn.self.nand cause;
  spent : HasSpent (g.N.Nand.tally l.fn.self.nand) (g.N.Nand.tally l.self.nand) (device_of l.fn.self.core).pages (left l.self.core);
  good : l.self.good ≡ l.fn.self.good;
  order : (updates : List Update) → IsOpenLayer g.N.Nand.flash g.N.Nand.shape g.N.Nand.bad l.fn.self updates
      → IsOrder l.self.numbers.items (g.N.Nand.bad l.self.nand) (g.N.Nand.shape l.self.nand).blocks
      (most_used (g.N.Nand.shape l.self.nand) (layer_sectors l.self));
  blank : (updates : List Update) → IsOpenLayer g.N.Nand.flash g.N.Nand.shape g.N.Nand.bad l.fn.self updates
      → IsReserveBlank (g.N.Nand.flash l.self.nand) (g.N.Nand.shape l.self.nand) (g.N.Nand.bad l.self.nand) (layer_sectors l.self);
  had : (updates : List Update) → IsOpenLayer g.N.Nand.flash g.N.Nand.shape g.N.Nand.bad l.fn.self updates
      → HasNoNew (g.N.Nand.flash l.fn.self.nand) (g.N.Nand.flash l.self.nand);
  consistent : (updates : List Update) → IsOpenLayer g.N.Nand.flash g.N.Nand.shape g.N.Nand.bad l.fn.self updates
      → IsConsistent (numbered l.self.numbers.items (g.N.Nand.flash l.self.nand)) l.self.core updates updates;
}

abbrev pub decreases-loop-self : goal.decreases-loop-self
decreases-loop-self g l = left l.self.core
