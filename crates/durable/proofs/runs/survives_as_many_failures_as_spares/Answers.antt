use Rattle.std.proofs.Common.{arith}
use Rattle.durable.proofs.Reserves.{blank, one_more, whole}
use Rattle.durable.proofs.runs.survives_as_many_failures_as_spares.Goals as goal

pub returns-clause-run : goal.returns-clause-run
returns-clause-run c spare events f layer runs has few = whole events f layer runs (omega (arith, has, few))

pub returns-clause-mounts : goal.returns-clause-mounts
returns-clause-mounts c spare events f left t layer update m b runs has few = one_more events f left t layer update m b runs (omega (arith, has, few))

pub returns-clause-untouched : goal.returns-clause-untouched
returns-clause-untouched c events f layer spare block runs has few = blank events f layer runs (omega (arith, has, few)) block
