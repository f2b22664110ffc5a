use Rattle.trace.proofs.Checks.{commands_of-commands}
use Rattle.trace.proofs.parsing.parse_owned.Goals as goal

pub returns-in-Ok-clause-commands : goal.returns-in-Ok-clause-commands
returns-in-Ok-clause-commands c = rw c.new.ensures (commands_of-commands _ _ _ (rw c.deref.ensures.value at c.in-Ok.ensures.each))

pub returns-in-Err-clause-fault : goal.returns-in-Err-clause-fault
returns-in-Err-clause-fault c = rw c.deref.ensures.value at c.in-Err.ensures.fault
