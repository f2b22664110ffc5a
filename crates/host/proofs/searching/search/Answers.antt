use Rattle.std.proofs.{Common.◌+◌, Common.refl, Common.◌∙◌}
use Rattle.flash_rule.specs.declared.facts.Pin.TheVariants.{Accepted}
use Rattle.flash_table.specs.Flash.{device, view_of}
use Rattle.host.proofs.ReadingSearch.{search_begins, search_pins, search_goes_on, late_nearer, sighted, found, found_empty}
use Rattle.host.proofs.searching.search.Goals as goal

pub loop-page-init : goal.loop-page-init
loop-page-init g c = record { search = search_begins c.args.flash.now c.args.pass.now c.requires.pass; pass = c.requires.pass.rested.pass; opened = refl }

pub returns-in_default-clause-empty : goal.returns-in_default-clause-empty
returns-in_default-clause-empty g c =
    let h = c.loop-page.invariant in
    found_empty c.args.flash.now c.args.pass.now c.loop-page.pass c.look-found.new.pass c.loop-page.tries c.args.sector h.search h.pass
    c.in_default.ensures.looked c.requires.pass.rested c.in_default.ensures.pass (c.in_default.ensures.opened ∙ h.opened)

pub pin_in_time-requires-clause-candidate : goal.pin_in_time-requires-clause-candidate
pin_in_time-requires-clause-candidate g c =
    let h = c.loop-page.invariant in
    let sight = sighted c.args.flash.now c.args.pass.now c.loop-page.pass
    (view_of c.look-found.new.pass) c.loop-page.tries c.args.sector c.in-Some.page h.search h.pass c.in-Some.ensures.fits c.in-Some.ensures.looked in
    (sight.named.value, sight.named.candidate)

pub returns-then-pin_in_time-clause-searched : goal.returns-then-pin_in_time-clause-searched
returns-then-pin_in_time-clause-searched g c =
    let h = c.loop-page.invariant in
    let sight = sighted c.args.flash.now c.args.pass.now c.loop-page.pass
    (view_of c.look-found.new.pass) c.loop-page.tries c.args.sector c.in-Some.page h.search h.pass c.in-Some.ensures.fits c.in-Some.ensures.looked in
    search_pins (view_of c.args.pass.now) (view_of c.look-found.new.pass) (view_of c.pin_in_time.new.pass) (c.loop-page.tries + 1)
    (Accepted c.in-Some.page sight.named.value) sight.told (c.if-pin_in_time.ensures.pinned sight.named.value sight.named.candidate)

pub returns-then-pin_in_time-clause-found : goal.returns-then-pin_in_time-clause-found
returns-then-pin_in_time-clause-found g c =
    let h = c.loop-page.invariant in
    let sight = sighted c.args.flash.now c.args.pass.now c.loop-page.pass
    (view_of c.look-found.new.pass) c.loop-page.tries c.args.sector c.in-Some.page h.search h.pass c.in-Some.ensures.fits c.in-Some.ensures.looked in
    found c.args.flash.now c.args.pass.now c.pin_in_time.new.pass (c.loop-page.tries + 1) c.args.sector c.in-Some.page
    (view_of c.look-found.new.pass) sight c.requires.pass.rested c.if-pin_in_time.ensures.pass
    (c.if-pin_in_time.ensures.opened ∙ (c.in-Some.ensures.opened ∙ h.opened)) (c.if-pin_in_time.ensures.pinned sight.named.value sight.named.candidate)

pub loop-page-smaller : goal.loop-page-smaller
loop-page-smaller g c =
    let h = c.loop-page.invariant in
    let sight = sighted c.args.flash.now c.args.pass.now c.loop-page.pass
    (view_of c.look-found.new.pass) c.loop-page.tries c.args.sector c.in-Some.page h.search h.pass c.in-Some.ensures.fits c.in-Some.ensures.looked in
    late_nearer (device c.args.flash.now) (view_of c.loop-page.pass) (view_of c.look-found.new.pass)
    (view_of c.pin_in_time.new.pass) c.args.sector _ c.in-Some.ensures.pass.numbers c.in-Some.ensures.looked
    (c.if-pin_in_time.ensures.pinned sight.named.value sight.named.candidate)

pub loop-page-preserved : goal.loop-page-preserved
loop-page-preserved g c =
    let h = c.loop-page.invariant in
    let sight = sighted c.args.flash.now c.args.pass.now c.loop-page.pass
    (view_of c.look-found.new.pass) c.loop-page.tries c.args.sector c.in-Some.page h.search h.pass c.in-Some.ensures.fits c.in-Some.ensures.looked in
    record {
      search = search_goes_on (view_of c.args.pass.now) (view_of c.look-found.new.pass) (view_of c.pin_in_time.new.pass)
          (c.loop-page.tries + 1) sight.told sight.own (c.if-pin_in_time.ensures.pinned sight.named.value sight.named.candidate);
      pass = c.if-pin_in_time.ensures.pass;
      opened = c.if-pin_in_time.ensures.opened ∙ (c.in-Some.ensures.opened ∙ h.opened);
    }
