use Rattle.std.proofs.Common.{◌≡◌, ◌⊎◌, ◌<◌, ◌≤◌, ℕ, Some}
use Rattle.geometry.specs.declared.page_addr.PageAddr.{PageAddr}
use Rattle.durable.specs.Memory.{map_entry}
use Rattle.nand.proofs.driver.Driver.stranded_from.Given as goal

abbrev pub invariant-loop-sector : goal.invariant-loop-sector
invariant-loop-sector l = (s : ℕ) (at : PageAddr) → l.fn.first ≤ s → s < l.sector → map_entry l.self.core s ≡ Some at
    → (at.block < l.self.unmarked) ⊎ (l.self.spare ≤ at.block)
