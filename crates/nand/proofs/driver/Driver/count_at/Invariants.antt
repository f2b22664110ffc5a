use Rattle.std.proofs.Common.{◌≡◌, ◌<◌, ◌≤◌, ℕ, Some}
use Rattle.durable.specs.Memory.{map_entry}
use Rattle.nand.proofs.driver.Driver.count_at.Given as goal

abbrev pub invariant-loop-end : goal.invariant-loop-end
invariant-loop-end l = (s : ℕ) → l.fn.first ≤ s → s < l.end → map_entry l.self.core s ≡ Some l.at
