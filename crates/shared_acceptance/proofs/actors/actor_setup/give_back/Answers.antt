use Rattle.std.proofs.{Common.[], Common.◌∷◌, Common.◌++◌, lemmas.List.Elements.All-push, lemmas.List.Elements.All-same}
use Rattle.host.specs.Ready.{IsReady}
use Rattle.volume.specs.Volume.{flash_of}
use Rattle.shared_acceptance.proofs.actors.actor_setup.give_back.Goals as goal

pub returns-then-len-capacity : goal.returns-then-len-capacity
returns-then-len-capacity g c =
    let P = IsReady (flash_of c.args.volume.now) in
    let items = c.args.passes.now.items in
    let pass = c.into_pass.result in
    All-same P c.push_reserved.new.self.items (items ++ pass ∷ []) c.push_reserved.ensures.items (All-push P items pass c.requires.ready c.into_pass.ensures)
