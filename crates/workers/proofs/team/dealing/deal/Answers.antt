use Rattle.std.proofs.Common.{◌≡◌, ℕ, All, List, Some, length, sym, ap, ◌∙◌, subst, arith}
use Rattle.std.specs.{Prelude.slice_get, Arc.arc_value}
use Rattle.std.proofs.lemmas.List.{length-map}
use Rattle.geometry.specs.{Geometry.hosts_of, declared.geometry.Geometry.Geometry}
use Rattle.flash_table.specs.{declared.pass.Pass.Pass, Flash.view_of, Flash.device, Flash.geometry_of, Flash.first_view}
use Rattle.broom.specs.declared.broom.Broom.{Broom}
use Rattle.trace.specs.declared.commands.Command.{Command}
use Rattle.volume.specs.{declared.volume.Volume.Volume, Volume.flash_of, Volume.IsBroomReady, Volume.IsUnused}
use Rattle.rounds.specs.Plans.{ends_of}
use Rattle.workers.specs.{Meetings.IsAt, Runs.AreManned, Runs.HasBegun, Served.AreAtRunStart, Served.HasCountedNone}
use Rattle.workers.specs.Dealing.{HasFitShare, IsOwner, with_commands, work_in}
use Rattle.workers.proofs.{TallySums.zero_plus, BroomServices.all_first, Openings.at_first, Openings.row_count, Openings.rows_doable}
use Rattle.workers.proofs.team.dealing.deal.Goals.{After-make_collectors}
use Rattle.workers.proofs.team.dealing.deal.Goals as goal

pub make_shares-requires : goal.make_shares-requires
make_shares-requires c = rows_doable c.args.geometry.now (hosts_of c.args.geometry.now)
    (arc_value c.args.commands.now) c.args.places.items c.requires.playable c.requires.places

pub make_workers-requires-clause-fit : goal.make_workers-requires-clause-fit
make_workers-requires-clause-fit c =
    let same : geometry_of (flash_of c.deref.result.now) ≡ c.args.geometry.now =
    ap (λ (v : Volume). geometry_of (flash_of v)) (c.deref.ensures ∙ c.into_parts-volume.ensures.volume) ∙ c.in_ok-unseated.ensures.geometry in
    subst (λ (g : Geometry). All (HasFitShare g) c.in_ok-shares.shares.items) (sym same) c.in_ok-shares.ensures.fit

pub make_workers-requires-clause-shares_count : goal.make_workers-requires-clause-shares_count
make_workers-requires-clause-shares_count c =
    let rows = row_count (hosts_of c.args.geometry.now) (arc_value c.args.commands.now) c.args.places.items c.requires.places in
    let work = ap (length {A = List Command × List ℕ}) c.in_ok-shares.ensures.work in
    let passes = ap (length {A = Pass}) c.into_parts-volume.ensures.passes ∙ c.in_ok-unseated.ensures.playing in
    omega (arith, length-map c.in_ok-shares.shares.items work_in, length-map c.args.places.items (with_commands (arc_value c.args.commands.now)))

pub make_collectors-requires-clause-ready : goal.make_collectors-requires-clause-ready
make_collectors-requires-clause-ready c =
    subst (λ (v : Volume). All (IsBroomReady v) c.into_parts-volume.result.2.items) (sym c.deref-2.ensures) c.into_parts-volume.ensures.ready.brooms_ready

pub make_collectors-requires-clause-owners : goal.make_collectors-requires-clause-owners
make_collectors-requires-clause-owners c =
    subst (λ (v : Volume). All (IsOwner v) c.in_ok-collector_owners.collector_owners.items)
    (sym (c.deref-2.ensures ∙ c.into_parts-volume.ensures.volume)) c.in_ok-collector_owners.ensures.same

-- what the workers have at the beginning
opened : (c : After-make_collectors) → let volume = arc_value c.into_parts-volume.result.0 in let cs = arc_value c.args.commands.now in
    HasBegun volume cs (ends_of cs) c.make_workers.new.workers.items × AreManned volume c.make_workers.new.workers.items
opened c =
    let new = c.in_ok-unseated.ensures in
    let parts = c.into_parts-volume.ensures in
    at_first (arc_value c.into_parts-volume.result.0) c.args.geometry.now
    (arc_value c.args.commands.now) c.args.places.items c.into_parts-volume.result.1.items c.make_workers.new.workers.items
    (ap (λ (v : Volume). geometry_of (flash_of v)) parts.volume ∙ new.geometry) c.requires.hosts c.requires.playable c.requires.places
    (ap (length {A = Pass}) parts.passes ∙ new.playing)
    (subst (λ (x : Volume × List Pass). (t : ℕ) (p : Pass) → slice_get x.1 t ≡ Some p
    → view_of p ≡ first_view (device (flash_of x.0)) t) (λ i. (sym parts.volume i, sym parts.passes i)) new.first)
    c.make_workers.ensures.passes (c.make_workers.ensures.work ∙ c.in_ok-shares.ensures.work)
    (subst (λ (v : Volume). All (IsAt v) c.make_workers.new.workers.items) c.deref.ensures c.make_workers.ensures.at) c.make_workers.ensures.none

pub returns-clause-begun : goal.returns-clause-begun
returns-clause-begun c = let cs = arc_value c.args.commands.now in
    subst (HasBegun (arc_value c.into_parts-volume.result.0) cs (ends_of cs)) (sym c.in_ok-new.ensures.workers)
    (opened (goal.at.returns-clause-begun c).After-make_collectors).0

pub returns-clause-manned : goal.returns-clause-manned
returns-clause-manned c =
    subst (AreManned (arc_value c.into_parts-volume.result.0)) (sym c.in_ok-new.ensures.workers)
    (opened (goal.at.returns-clause-manned c).After-make_collectors).1

pub returns-clause-first : goal.returns-clause-first
returns-clause-first c =
    let volume = arc_value c.into_parts-volume.result.0 in
    let parts = c.into_parts-volume.ensures in
    let collectors = c.make_collectors.new.collectors.items in
    let unused : (i : ℕ) (b : Broom) → slice_get c.into_parts-volume.result.2.items i ≡ Some b → IsUnused (flash_of volume) i b =
    subst (λ (x : Volume × List Broom). (i : ℕ) (b : Broom) → slice_get x.1 i ≡ Some b → IsUnused (flash_of x.0) i b)
    (λ i. (sym parts.volume i, sym parts.brooms i)) c.in_ok-unseated.ensures.unused in
    subst (AreAtRunStart volume c.args.drains 0) (sym c.in_ok-new.ensures.collectors)
    (all_first volume c.args.drains 0 collectors
    (λ i b at. subst (λ (n : ℕ). IsUnused (flash_of volume) n b) (zero_plus i)
    (unused i b (subst (λ l. slice_get l i ≡ Some b) c.make_collectors.ensures.brooms at)))
    (subst (λ (v : Volume). All (HasCountedNone v c.args.drains) collectors) c.deref-2.ensures c.make_collectors.ensures.none))
