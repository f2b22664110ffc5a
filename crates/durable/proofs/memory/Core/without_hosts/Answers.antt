use Rattle.std.proofs.Common.{◌≡◌, arith}
use Rattle.durable.specs.Collecting.{live_in}
use Rattle.durable.proofs.Counts.{counted_none}
use Rattle.durable.proofs.Opened.{none_open}
use Rattle.durable.proofs.memory.Core.without_hosts.Goals as goal

pub returns-in-Some-empty-clause-next : goal.returns-in-Some-empty-clause-next
returns-in-Some-empty-clause-next c =
    let core = c.args.self.now in
    let block = c.in-Some-empty.block in
    let found = c.in-Some-empty.ensures.some in
    let live : live_in block core.map.items ≡ 0 = omega (arith, core.counted block found.0, found.1) in
    let none = none_open core.next_pages c.requires c.in-None.is in (
      core.enough.2 c.requires c.in-None.is,
      omega (arith, found.0, core.counts_sized),
      counted_none block core.map.items live,
      (λ at opened. absurd (none at opened)),
      (λ some. c.in-None.is),
      (λ at opened. absurd (none at opened)),
    )
