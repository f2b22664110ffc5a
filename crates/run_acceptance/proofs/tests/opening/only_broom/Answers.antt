use Rattle.std.proofs.Common.{Some}
use Rattle.std.proofs.lemmas.List.Elements.{All-pop}
use Rattle.volume.specs.Volume.{IsBroomReady}
use Rattle.run_acceptance.proofs.tests.opening.only_broom.Goals as goal

pub returns : goal.returns
returns c = (All-pop (IsBroomReady c.args.volume.now) c.args.brooms.items c.pop.new.self.items
    (Some c.in-Some.broom) c.in-Some.ensures.items c.requires.ready).1
