use Rattle.std.proofs.{Common.Some, lemmas.List.Elements.All-pop}
use Rattle.host.specs.Ready.{IsReady}
use Rattle.volume.specs.Volume.{flash_of}
use Rattle.shared_acceptance.proofs.actors.actor_setup.next_host.Goals as goal

pub invariant_of-result : goal.invariant_of-result
invariant_of-result g c =
    let popped = All-pop (IsReady (flash_of c.args.volume.now)) c.args.passes.now.items c.pop.new.self.items
    (Some c.in_ok-pass.pass) c.in_ok-pass.ensures.items c.requires.ready in
    record { home = c.requires.home; ready = popped.1 }

pub returns : goal.returns
returns g c = (All-pop (IsReady (flash_of c.args.volume.now)) c.args.passes.now.items c.pop.new.self.items
    (Some c.in_ok-pass.pass) c.in_ok-pass.ensures.items c.requires.ready).0
