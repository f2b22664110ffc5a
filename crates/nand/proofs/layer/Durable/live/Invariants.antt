use Rattle.std.proofs.Common.{◌≢◌, ◌<◌, ℕ}
use Rattle.nand.specs.Numbers.{chip_block as block_of}
use Rattle.nand.proofs.layer.Durable.live.Given as goal

abbrev pub invariant-loop-number : goal.invariant-loop-number
invariant-loop-number g l = (c : ℕ) → c < l.number → block_of l.self.numbers.items c ≢ l.block
