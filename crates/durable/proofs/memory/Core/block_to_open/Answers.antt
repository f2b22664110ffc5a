use Rattle.std.proofs.Common.{refl, arith}
use Rattle.durable.proofs.Counts.{counted_none}
use Rattle.durable.proofs.memory.Core.block_to_open.Goals as goal

pub returns : goal.returns
returns c =
    let core = c.args.self.now in
    let block = c.in_ok-block.block in
    let found = c.in_ok-block.ensures.some in
    let beside = c.in_ok-other_empty.field-0 in
    let other = c.in_ok-other_empty.ensures in (
      omega (arith, c.if-self-from.false, core.enough.1),
      omega (arith, found.0, core.counts_sized),
      counted_none block core.map.items (omega (arith, core.counted block found.0, found.1)),
      c.if-not-is_closed.ensures.yes refl,
      (
        beside,
        omega (arith, other.0, core.counts_sized),
        other.3,
        other.2,
        counted_none beside core.map.items (omega (arith, core.counted beside other.0, other.1)),
      ),
    )
