use Rattle.std.proofs.Common.{length, drop, refl, ap, arith, length-append, length-drop}
use Rattle.laws.proofs.Loads.{took_one_too_many}
use Rattle.laws.proofs.traces.loads_of_a_trace.Goals as goal

pub returns-clause-big : goal.returns-clause-big
returns-clause-big c bytes long = (refl, took_one_too_many bytes long)

pub returns-clause-read_too_few : goal.returns-clause-read_too_few
returns-clause-read_too_few c bytes long h =
    let rest = drop 268435456 bytes in
    omega (arith, long, h.1.count, ap length h.1.took, length-append h.1.taken rest, length-drop 268435456 bytes)
