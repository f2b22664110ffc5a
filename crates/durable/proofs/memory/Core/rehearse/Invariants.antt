use Rattle.std.proofs.Common.{◌≡◌, ◌⊎◌, ◌≤◌, ◌+◌, length}
use Rattle.durable.specs.Collecting.{most_copies}
use Rattle.durable.specs.Next.{IsRoomy}
use Rattle.durable.specs.Device.{device_of}
use Rattle.durable.specs.Choice.{left}
use Rattle.durable.proofs.memory.Core.rehearse.Given as goal

abbrev pub invariant-loop-cost : goal.invariant-loop-cost
invariant-loop-cost l = record {
  device : device_of l.self ≡ device_of l.fn.self;
  number : l.self.next_number ≡ l.fn.self.next_number;
  erases : (l.cost.erases ≡ 0) ⊎ ((l.cost.erases ≡ 1) × (left l.self ≤ l.self.pages));
  few : IsRoomy l.fn.self.blocks l.fn.self.map.items l.fn.self.next_pages → IsRoomy l.self.blocks l.self.map.items l.self.next_pages
      × (l.cost.copies ≤ most_copies (length l.fn.self.map.items) l.fn.self.blocks l.fn.self.pages);
  copies : (l.cost.copies ≡ 0) ⊎ (l.cost.copies + left l.self ≤ l.self.pages);
}

abbrev pub decreases-loop-cost : goal.decreases-loop-cost
decreases-loop-cost l = left l.self
