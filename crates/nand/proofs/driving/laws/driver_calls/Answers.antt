use Rattle.std.proofs.Common.{ap}
use Rattle.nand.specs.Driving.{is_made}
use Rattle.nand.proofs.Drives.{drives_hold, drives_stay, idle_made, idle_unmade, knows_opened, read_unmade}
use Rattle.nand.proofs.driving.laws.driver_calls.Goals as goal

pub returns-clause-holds : goal.returns-clause-holds
returns-clause-holds c answers value f t old new was is run = drives_hold answers value f t old new was is run

pub returns-clause-call : goal.returns-clause-call
returns-clause-call c answers value f t old new run = (drives_stay answers value f t old new run).call

pub returns-clause-given_up : goal.returns-clause-given_up
returns-clause-given_up c answers value f t old new b run = (drives_stay answers value f t old new run).given_up b

pub returns-clause-made : goal.returns-clause-made
returns-clause-made c f value was driver is idle outcome = idle_made f value was driver is idle (ap is_made outcome)

pub returns-clause-refused : goal.returns-clause-refused
returns-clause-refused c f value was driver is idle outcome = idle_unmade f value was driver is idle (ap is_made outcome)

pub returns-clause-reads : goal.returns-clause-reads
returns-clause-reads c f value was driver is only outcome = read_unmade f value was driver is only (ap is_made outcome)

pub returns-clause-opened : goal.returns-clause-opened
returns-clause-opened c f numbers core shape bad sectors updates order device blank consistent =
    knows_opened f numbers core shape bad sectors updates order device blank consistent
