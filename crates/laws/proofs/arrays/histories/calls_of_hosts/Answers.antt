use Rattle.std.proofs.Common.{arith}
use Rattle.geometry.specs.History.{Trim}
use Rattle.laws.proofs.arrays.histories.calls_of_hosts.Goals as goal

pub returns-clause-beyond : goal.returns-clause-beyond
returns-clause-beyond c z s two hosts = omega (arith, two, hosts 1 (Trim 0 s) (omega arith))
