use Rattle.broom.proofs.Drains.{drain_told, drain_left}
use Rattle.broom.proofs.draining.drain.Goals as goal

pub returns-clause-drained : goal.returns-clause-drained
returns-clause-drained g c =
    drain_told c.args.broom.now c.choose.new.broom c.drain_marked.new.broom c.in-Some.block c.drain_marked.result c.in-Some.ensures.chosen
    c.choose.ensures.blocks c.drain_marked.ensures.drained_marked

pub returns-clause-left : goal.returns-clause-left
returns-clause-left g c =
    drain_left c.args.broom.now c.choose.new.broom c.drain_marked.new.broom c.in-Some.block c.drain_marked.result c.in-Some.ensures.chosen
    c.choose.ensures.blocks c.drain_marked.ensures.drained_marked c.drain_marked.ensures.marks
