use Rattle.std.proofs.Common.{◌≤◌, refl, arith}
use Rattle.laws.proofs.devices.limits.pages_and_states_of_devices.Goals as goal

pub returns-clause-not_least : goal.returns-clause-not_least
returns-clause-not_least c h = let e : 2 ≤ 1 = h.least 1 refl in omega (arith, e)
