use Rattle.std.proofs.Common.{◌≡◌}
use Rattle.nand.proofs.layer.Durable.erased_before.Given as goal

abbrev pub invariant-loop-block : goal.invariant-loop-block
invariant-loop-block g l = l.self ≡ l.fn.self
