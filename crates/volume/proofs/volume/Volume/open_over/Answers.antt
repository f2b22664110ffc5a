use Rattle.std.proofs.Common.{◌<◌, All, sym, ap, ◌∙◌, subst}
use Rattle.geometry.specs.{Geometry.hosts_of, Geometry.brooms_of, declared.geometry.Geometry.Geometry}
use Rattle.host.specs.Ready.{IsReady}
use Rattle.volume.proofs.{Answered.all_fresh, FreshBrooms.all_rested, FreshBrooms.as_many, FreshBrooms.begins, FreshBrooms.fresh_queued}
use Rattle.volume.proofs.volume.Volume.open_over.Goals as goal

pub make_brooms-requires-clause-seats : goal.make_brooms-requires-clause-seats
make_brooms-requires-clause-seats c =
    let told = c.in_ok-flash.ensures in
    let same = told.geometry in
    all_rested c.in_ok-flash.flash c.in_ok-flash.seats.items (subst (λ (g : Geometry). 0 < hosts_of g) (sym same) c.requires.hosts)
    (told.count.1 ∙ ap brooms_of (sym same)) told.brooms

pub retire_all-requires : goal.retire_all-requires
retire_all-requires c = subst (All (IsReady c.in_ok-flash.flash)) (sym c.into_iter.ensures.rest)
    (all_fresh c.in_ok-flash.flash c.in_ok-flash.passes.items c.in_ok-flash.ensures.passes)

pub returns-in-Ok-clause-count : goal.returns-in-Ok-clause-count
returns-in-Ok-clause-count c =
    (c.in_ok-flash.ensures.count.0, as_many c.in_ok-flash.seats.items c.in-Ok.brooms.items c.in-Ok.ensures.same ∙ c.in_ok-flash.ensures.count.1)

pub returns-in-Ok-clause-passes : goal.returns-in-Ok-clause-passes
returns-in-Ok-clause-passes c = λ t p is. (c.in_ok-flash.ensures.passes t p is).1

pub returns-in-Ok-clause-ready : goal.returns-in-Ok-clause-ready
returns-in-Ok-clause-ready c = all_fresh c.in_ok-flash.flash c.in_ok-flash.passes.items c.in_ok-flash.ensures.passes

pub returns-in-Ok-clause-brooms : goal.returns-in-Ok-clause-brooms
returns-in-Ok-clause-brooms c = begins c.in_ok-flash.flash c.in_ok-flash.seats.items c.in-Ok.brooms.items c.in-Ok.ensures.same c.in_ok-flash.ensures.brooms

pub returns-in-Ok-clause-brooms_ready : goal.returns-in-Ok-clause-brooms_ready
returns-in-Ok-clause-brooms_ready c =
    λ k d low.
    let h = c.in-Ok.ensures.fresh k d low in
    record { ready = h.ready; queued = fresh_queued c.in_ok-flash.flash c.args.queue _ h }
