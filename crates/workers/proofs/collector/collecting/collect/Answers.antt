use Rattle.workers.proofs.BroomCalls.{collected_turn}
use Rattle.workers.proofs.collector.collecting.collect.Goals as goal

pub loop-preserved-then-turn : goal.loop-preserved-then-turn
loop-preserved-then-turn g c = collected_turn c.args.collector c.loop.collector c.turn.new.self c.turn.result c.loop.invariant c.turn.ensures

pub returns-then-load-2 : goal.returns-then-load-2
returns-then-load-2 g c = collected_turn c.args.collector c.loop.collector c.turn.new.self c.turn.result c.loop.invariant c.turn.ensures

pub loop-preserved : goal.loop-preserved
loop-preserved g c = collected_turn c.args.collector c.loop.collector c.turn.new.self c.turn.result c.loop.invariant c.turn.ensures
