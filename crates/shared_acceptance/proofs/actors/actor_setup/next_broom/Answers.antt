use Rattle.std.proofs.{Common.Some, lemmas.List.Elements.All-pop}
use Rattle.volume.specs.Volume.{IsBroomReady}
use Rattle.shared_acceptance.proofs.actors.actor_setup.next_broom.Goals as goal

pub invariant_of-result : goal.invariant_of-result
invariant_of-result g c =
    let popped = All-pop (IsBroomReady c.args.volume.now) c.args.brooms.now.items c.pop.new.self.items
    (Some c.in_ok-broom.broom) c.in_ok-broom.ensures.items c.requires.ready in
    record { home = c.requires.home; ready = popped.1 }

pub returns-clause-ready : goal.returns-clause-ready
returns-clause-ready g c =
    (All-pop (IsBroomReady c.args.volume.now) c.args.brooms.now.items c.pop.new.self.items
    (Some c.in_ok-broom.broom) c.in_ok-broom.ensures.items c.requires.ready).0
