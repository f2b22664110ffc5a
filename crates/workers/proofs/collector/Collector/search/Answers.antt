use Rattle.workers.proofs.BroomTurns.{searched_dead}
use Rattle.workers.proofs.collector.Collector.search.Goals as goal

pub returns : goal.returns
returns g c =
    searched_dead c.args.self.now c.restock.new.self c.drain_dead-drain.new.self c.restock.result c.drain_dead-drain.result c.has_drained.result
    c.if-restock.false c.restock.ensures c.drain_dead-drain.ensures c.has_drained.ensures
