use Rattle.std.proofs.Common.{Some}
use Rattle.std.proofs.lemmas.List.Elements.{All-pop}
use Rattle.host.specs.Ready.{IsReady}
use Rattle.volume.specs.Volume.{flash_of}
use Rattle.run_acceptance.proofs.tests.opening.only_pass.Goals as goal

pub returns : goal.returns
returns c = (All-pop (IsReady (flash_of c.args.volume.now)) c.args.passes.items c.pop.new.self.items
    (Some c.in-Some.pass) c.in-Some.ensures.items c.requires.ready).1
