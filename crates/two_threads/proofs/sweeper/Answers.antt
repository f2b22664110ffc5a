use Rattle.std.proofs.Common.{Some}
use Rattle.std.proofs.lemmas.List.Elements.{All-pop}
use Rattle.volume.specs.Volume.{IsBroomReady}
use Rattle.two_threads.proofs.sweeper.Goals as goal

pub invariant_of-result : goal.invariant_of-result
invariant_of-result c =
    let popped = All-pop (IsBroomReady c.args.volume.now) c.args.brooms.now.items c.pop.new.self.items
    (Some c.in-Some.broom) c.in-Some.ensures.items c.requires.ready in
    record { ready = popped.1 }
