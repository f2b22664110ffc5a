use Rattle.std.proofs.Common.{◌≡◌, ◌+◌, ◌%◌, ◌^◌, ◌≤◌, ℕ, true, false, List}
use Rattle.durable.specs.Device.{losses_of}
use Rattle.durable.specs.Updates.{Makes, Update}
use Rattle.nand.specs.declared.flash.Fault.TheVariants as fault
use Rattle.nand.specs.Nand.{value_with}
use Rattle.nand.specs.Numbers.{good_before, is_marked}
use Rattle.nand.specs.Opened.{IsOpenLayer, layer_sectors, number_of, update_of}
use Rattle.nand.specs.Programs.{TalliesMoves}
use Rattle.nand.proofs.layer.Durable.update.Given as goal

abbrev pub invariant-loop-self : goal.invariant-loop-self
invariant-loop-self g l = record {
  counted : l.self.good + l.failed ≡ l.fn.self.good;
  number : number_of l.fn.self ≤ number_of l.self;
  sectors : layer_sectors l.self ≡ layer_sectors l.fn.self;
  shape : g.N.Nand.shape l.self.nand ≡ g.N.Nand.shape l.fn.self.nand;
  marks : (b : ℕ) → is_marked (g.N.Nand.bad l.fn.self.nand) b ≡ true → is_marked (g.N.Nand.bad l.self.nand) b ≡ true;
  power : g.N.Nand.faults l.self.nand fault.PowerGone ≡ g.N.Nand.faults l.fn.self.nand fault.PowerGone;
  failures : g.N.Nand.faults l.self.nand fault.Failed % 2 ^ 64 ≡ (g.N.Nand.faults l.fn.self.nand fault.Failed + l.failed) % 2 ^ 64;
  first : l.failed ≡ 0 → (g.N.Nand.faults l.self.nand fault.Failed ≡ g.N.Nand.faults l.fn.self.nand fault.Failed)
      × (g.N.Nand.bad l.self.nand ≡ g.N.Nand.bad l.fn.self.nand) × (number_of l.self ≡ number_of l.fn.self)
      × (g.N.Nand.flash l.self.nand ≡ g.N.Nand.flash l.fn.self.nand);
  losses : losses_of l.self.core ≡ losses_of l.fn.self.core;
  programmed : (g.N.Nand.tally l.self.nand).programs ≡ (g.N.Nand.tally l.fn.self.nand).programs;
  holds : (updates : List Update) → IsOpenLayer g.N.Nand.flash g.N.Nand.shape g.N.Nand.bad l.fn.self updates
      → (after : List Update) × Makes false (update_of l.fn.extent (value_with l.fn.trimmed l.fn.main)) updates after
      × IsOpenLayer g.N.Nand.flash g.N.Nand.shape g.N.Nand.bad l.self after
      × (good_before (g.N.Nand.bad l.self.nand) (g.N.Nand.shape l.fn.self.nand).blocks + l.failed
      ≡ good_before (g.N.Nand.bad l.fn.self.nand) (g.N.Nand.shape l.fn.self.nand).blocks)
      × (l.failed ≡ 0 → after ≡ updates)
      × TalliesMoves (g.N.Nand.tally l.fn.self.nand) (g.N.Nand.tally l.self.nand) l.failed (g.N.Nand.shape l.fn.self.nand).pages;
}

abbrev pub decreases-loop-self : goal.decreases-loop-self
decreases-loop-self g l = l.self.good
