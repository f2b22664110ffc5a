use Rattle.std.proofs.{Common.sym, Common.◌∙◌, Common.subst, lemmas.Option.same_Some}
use Rattle.host.specs.Ready.{IsReady}
use Rattle.volume.specs.{declared.volume.Volume.Volume, Volume.flash_of}
use Rattle.shared_acceptance.proofs.actors.Host.into_pass.Goals as goal

-- the host's device is the one that is given beside it
pub returns : goal.returns
returns g c =
    let host = c.args.self in
    subst (λ (w : Volume). IsReady (flash_of w) host.pass) (same_Some host.volume.now c.args.volume.now (sym host.home.0 ∙ c.requires.0)) host.ready
