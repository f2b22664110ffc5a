use Rattle.std.proofs.{Common.Some, lemmas.List.Elements.All-pop}
use Rattle.volume.specs.Volume.{IsBroomReady}
use Rattle.shared_acceptance.proofs.opening.last_broom.Goals as goal

pub returns-clause-others : goal.returns-clause-others
returns-clause-others c =
    (All-pop (IsBroomReady c.args.volume.now) c.args.brooms.now.items c.pop.new.self.items (Some c.in-Some.broom) c.in-Some.ensures.items c.requires.ready).0

pub returns-clause-ready : goal.returns-clause-ready
returns-clause-ready c = (All-pop (IsBroomReady c.args.volume.now) c.args.brooms.now.items c.pop.new.self.items
    (Some c.in-Some.broom) c.in-Some.ensures.items c.requires.ready).1
