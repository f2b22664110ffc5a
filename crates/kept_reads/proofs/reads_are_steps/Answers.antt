use Rattle.kept_reads.proofs.Shown.{at_rest, loads, reads, stays, trims, writes}
use Rattle.kept_reads.proofs.reads_are_steps.Goals as goal

pub returns-clause-opens : goal.returns-clause-opens
returns-clause-opens c = loads

pub returns-clause-writes : goal.returns-clause-writes
returns-clause-writes c = writes

pub returns-clause-trims : goal.returns-clause-trims
returns-clause-trims c = trims

pub returns-clause-stays : goal.returns-clause-stays
returns-clause-stays c = stays

pub returns-clause-reads : goal.returns-clause-reads
returns-clause-reads c = reads

pub returns-clause-at_rest : goal.returns-clause-at_rest
returns-clause-at_rest c = at_rest
