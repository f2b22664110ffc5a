use Rattle.std.proofs.Common.{◌≡◌, ◌≤◌, ◌*◌}
use Rattle.durable.specs.Losses.{losses_in}
use Rattle.durable.proofs.gaps.losses.Given as goal

abbrev pub invariant-loop-block : goal.invariant-loop-block
invariant-loop-block l = record {
  sum : l.losses ≡ losses_in l.found.items l.gaps l.block;
  most : l.losses ≤ l.block * 4294967295;
}
