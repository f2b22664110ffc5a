use Rattle.std.proofs.{Common.sym, Common.subst}
use Rattle.volume.specs.declared.volume.Volume.{Volume}
use Rattle.workers.specs.Dealing.{AreNew, AreReady}
use Rattle.workers.proofs.team.opening.open_shared.Goals as goal

pub give_up-requires : goal.give_up-requires
give_up-requires c =
    let told = c.in_ok-volume.ensures in
    subst (λ (v : Volume). AreReady v c.in_ok-volume.passes.items c.in_ok-volume.brooms.items) (sym c.in-Err.ensures.value_returned)
    (record { passes_ready = told.ready; brooms_ready = told.brooms_ready })

pub returns-in-Ok : goal.returns-in-Ok
returns-in-Ok c =
    let told = c.in_ok-volume.ensures in
    subst (λ (v : Volume). AreNew c.args.geometry.now v c.in_ok-volume.passes.items c.in_ok-volume.brooms.items) (sym c.in-Ok.ensures.ok)
    (record { geometry = told.geometry; playing = told.count.0; collecting = told.count.1; first = told.passes; unused = told.brooms })
