use Rattle.std.proofs.Common.{◌≡◌, ◌<◌, length, arith}
use Rattle.std.proofs.lemmas.Bool.{eqb-true}
use Rattle.durable.specs.Collecting.{live_in}
use Rattle.durable.proofs.Counts.{counted_none}
use Rattle.durable.proofs.memory.Core.is_free_beside.Goals as goal

pub returns-then-block-avoided-clause-yes : goal.returns-then-block-avoided-clause-yes
returns-then-block-avoided-clause-yes c empty =
    let core = c.args.self.now in
    let inside : c.args.block < length core.counts = omega (arith, c.if-block-avoided.true.0, core.counts_sized) in
    let none : c.get.result ≡ 0 = eqb-true c.get.result 0 empty in
    let live : live_in c.args.block core.map.items ≡ 0 = omega (arith, core.counted c.args.block inside, c.get.ensures, none) in
    (counted_none c.args.block core.map.items live, c.if-block-avoided.true.0, c.if-block-avoided.true.1)
