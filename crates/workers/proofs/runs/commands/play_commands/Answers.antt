use Rattle.std.proofs.{Common.◌≡◌, Common.ℕ, Common.List, Common.sym, Common.ap, Common.◌∙◌, Common.subst, Common.arith}
use Rattle.std.specs.Arc.{arc_value}
use Rattle.rounds.specs.{Plans.ends_of}
use Rattle.volume.specs.{declared.volume.Volume.Volume, Volume.flash_of}
use Rattle.flash_table.specs.Flash.{geometry_of}
use Rattle.workers.specs.{Served.AreAtRunStart, Runs.HasBegun}
use Rattle.workers.proofs.{WorkerRows.all_paged, WorkerRows.all_played, BroomCalls.collected_long, BroomServices.all_served}
use Rattle.workers.proofs.runs.commands.play_commands.Goals as goal

pub fold_collectors-requires-clause-room : goal.fold_collectors-requires-clause-room
fold_collectors-requires-clause-room g c =
    let long = collected_long c.in_ok-volume.team.collectors.items c.in_ok-team.team.collectors.items c.in_ok-team.ensures.collected in
    let dealt = c.in_ok-volume.ensures.collectors in
    let count = c.brooms.ensures.value in
    let room = c.in_ok-brooms.ensures.capacity in omega arith

pub returns-clause-played : goal.returns-clause-played
returns-clause-played g c =
    let cs = arc_value c.args.commands.now in
    let volume = c.deref-2.result.now in
    let ends : ends_of cs ≡ c.deref-3.result.now =
    ap ends_of (sym c.deref.ensures) ∙ (sym c.in_ok-places.ensures.ends ∙ sym c.deref-3.ensures.value) in
    let begun : HasBegun volume cs c.deref-3.result.now c.in_ok-volume.team.workers.items =
    subst (λ (x : Volume × List ℕ). HasBegun x.0 cs x.1 c.in_ok-volume.team.workers.items)
    (λ i. (sym c.deref-2.ensures i, ends i)) c.in_ok-volume.ensures.begun in
    all_played volume c.args.geometry.now c.args.patience cs c.in_ok-volume.team.workers.items c.in_ok-team.team.workers.items c.hand_out.new.rows.items
    (ap (λ (v : Volume). geometry_of (flash_of v)) c.deref-2.ensures ∙ c.in_ok-volume.ensures.geometry) c.in_ok-team.ensures.manned
    (c.in_ok-team.ensures.run cs begun) c.hand_out.ensures

pub returns-clause-pages : goal.returns-clause-pages
returns-clause-pages g c =
    all_paged c.deref-2.result.now c.args.geometry.now c.in_ok-team.team.workers.items c.hand_out.new.rows.items
    (ap (λ (v : Volume). geometry_of (flash_of v)) c.deref-2.ensures ∙ c.in_ok-volume.ensures.geometry) c.in_ok-team.ensures.manned c.hand_out.ensures

pub returns-clause-brooms : goal.returns-clause-brooms
returns-clause-brooms g c =
    let before = c.in_ok-volume.team.collectors.items in
    let after = c.in_ok-team.team.collectors.items in
    all_served c.deref-2.result.now c.args.geometry.now c.args.drains before after c.fold_collectors.new.ends.items
    (ap (λ (v : Volume). geometry_of (flash_of v)) c.deref-2.ensures ∙ c.in_ok-volume.ensures.geometry)
    (collected_long before after c.in_ok-team.ensures.collected ∙ c.in_ok-volume.ensures.collectors)
    (subst (λ (v : Volume). AreAtRunStart v c.args.drains 0 before) (sym c.deref-2.ensures) c.in_ok-volume.ensures.first) c.in_ok-team.ensures.collected
    c.fold_collectors.ensures
