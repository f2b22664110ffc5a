use Rattle.std.proofs.Common.{arith}
use Rattle.volume.proofs.Looks.{begins, meets_next, met_each}
use Rattle.volume.proofs.closing.meet_each.Goals as goal

pub loop-other-init : goal.loop-other-init
loop-other-init c = begins c.args.flash.now c.args.first.now c.args.others.now c.requires.first c.requires.others

pub loop-other-preserved : goal.loop-other-preserved
loop-other-preserved c = meets_next c.args.flash.now c.args.first.now c.args.others.now c.loop-other.other-index c.loop-other.first c.meet.new.first
    c.other-item.result c.meet.new.second c.loop-other.others c.loop-other.invariant c.loop-other-test.true c.meet.ensures.met c.meet.ensures.first
    c.meet.ensures.second

pub returns-clause-met_each : goal.returns-clause-met_each
returns-clause-met_each c = met_each c.args.flash.now c.args.first.now c.loop-other.first c.args.others.now c.loop-other.others c.loop-other.other-index
    c.loop-other.invariant (let past = c.loop-other-test.false in omega arith)
