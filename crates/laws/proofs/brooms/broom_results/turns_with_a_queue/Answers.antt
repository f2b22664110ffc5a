use Rattle.laws.proofs.brooms.broom_results.turns_with_a_queue.Goals as goal

pub returns-clause-drained : goal.returns-clause-drained
returns-clause-drained c b n x y h = (h.drain.relieved, h.drained, h.drain.first, h.drain.drain.0, h.drain.drain.1, h.drain.apart, h.handed)

pub returns-clause-lost : goal.returns-clause-lost
returns-clause-lost c x y h = (h.relieved, h.first, h.drain.0, h.drain.1, h.apart)

pub returns-clause-next : goal.returns-clause-next
returns-clause-next c x y h = (h.relieved, h.first, h.drain, h.apart)

pub returns-clause-dead : goal.returns-clause-dead
returns-clause-dead c x y h = (h.relieved, h.first, h.drain, h.apart)

pub returns-clause-erased : goal.returns-clause-erased
returns-clause-erased c b k x y h = (h.0, h.1.fetched, h.1.first, h.1.erase, h.1.marks, h.1.apart)

pub returns-clause-pinned : goal.returns-clause-pinned
returns-clause-pinned c x y h = (h.block, h.erase.fetched, h.found, h.erase.first, h.erase.erase, h.erase.marks, h.erase.apart, h.handed)
