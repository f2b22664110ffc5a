use Rattle.broom.proofs.{Turning.erased_one, Turning.pinned_one}
use Rattle.broom.proofs.turns.erase_one.Goals as goal

pub returns-in_default-answer-clause-erased_one : goal.returns-in_default-answer-clause-erased_one
returns-in_default-answer-clause-erased_one g c =
    let told = c.erase-answer.ensures in
    erased_one _ c.args.broom.now c.fetch.new.broom c.erase-answer.new.broom c.in-Some.block c.erase-answer.result
    c.in_default-answer.not-Pinned c.in-Some.ensures.fetched told.erased told.marks told.queue

pub returns-clause-erased_one : goal.returns-clause-erased_one
returns-clause-erased_one g c =
    let told = c.erase-answer.ensures in
    pinned_one _ c.args.broom.now c.fetch.new.broom c.erase-answer.new.broom c.hand_on.new.broom c.in-Some.block c.erase-answer.result c.in-Pinned.is
    c.in-Some.ensures.fetched told.erased told.marks told.queue c.hand_on.ensures.handed
