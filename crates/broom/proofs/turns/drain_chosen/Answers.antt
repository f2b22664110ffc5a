use Rattle.broom.proofs.{Turning.turned}
use Rattle.broom.proofs.turns.drain_chosen.Goals as goal

pub returns-clause-drained_one : goal.returns-clause-drained_one
returns-clause-drained_one g c =
    let told = c.drain_by-answer.ensures in
    turned c.args.choice _ c.args.broom.now c.relieve.new.broom c.drain_by-answer.new.broom c.pass_on.new.broom
    c.if-not-relieve.ensures.relieved told.queue c.drain_by-answer.result told.drained_by c.pass_on.ensures.drained c.pass_on.ensures.none
