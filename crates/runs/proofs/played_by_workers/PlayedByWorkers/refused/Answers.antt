use Rattle.std.proofs.{Common.arith, lemmas.Grind.common_steps}
use Rattle.runs.proofs.RefusedWrites.{first_places}
use Rattle.runs.proofs.played_by_workers.PlayedByWorkers.refused.Goals as goal

pub count_refused-requires-clause-first : goal.count_refused-requires-clause-first
count_refused-requires-clause-first c =
    let few = c.requires.few in
    first_places c.new-next.result c.len.result 500 c.new-next.ensures (grind (arith, common_steps))
