use Rattle.std.proofs.Common.{◌≡◌, ◌+◌, None, Some, sym, ap, ◌∙◌, subst, arith}
use Rattle.geometry.specs.{Geometry.pages_of, Geometry.sectors_of, Limits.Numbers, Words.FitsMap}
use Rattle.flash_rule.specs.declared.view.View.{View}
use Rattle.flash_table.specs.{Flash.broom_view, Flash.geometry_of, declared.broom_seat.ReclaimedBlock.ReclaimedBlock}
use Rattle.broom.specs.{Emptying.victim_page, Relocating.Sweeps, Relocating.Relocated}
use Rattle.broom.proofs.Sweeping.{Untouched, untouched_source, relocated_source, sweeps_on, page_fits, stamp_dead, callers_same, look_callers, look_live}
use Rattle.broom.proofs.Sweeping.{look_dead, found_dead_then, found_live_then}
use Rattle.broom.proofs.relocation.live_sector.Goals.{After-sectors, After-found}
use Rattle.broom.proofs.relocation.live_sector.Goals as goal

-- the numbers of the seat are the device's
sectors_are : (c : After-sectors) → (broom_view c.args.seat.now).numbers.sectors ≡ c.sectors.result
sectors_are c = ap (λ (z : Numbers). z.sectors) c.requires.next.1.seat.numbers ∙ sym (c.sectors.ensures.value ∙ ap sectors_of c.geometry.ensures)

pub returns-then-stamp-from-clause-found : goal.returns-then-stamp-from-clause-found
returns-then-stamp-from-clause-found c =
    let t = c.requires.next in
    let sectors = sectors_are (goal.at.returns-then-stamp-from-clause-found c).After-sectors in
    let past = c.if-stamp-from.true in
    let from = c.from.ensures in
    stamp_dead (broom_view c.args.seat.now) (broom_view c.get_stamp-stamp.new.broom) t.0 c.get_stamp-stamp.result
    (c.get_stamp-stamp.ensures.stamp t.0 t.1.draining) c.args.page (omega arith)

pub returns-then-stamp-from-clause-sweeps : goal.returns-then-stamp-from-clause-sweeps
returns-then-stamp-from-clause-sweeps c x h =
    let v = broom_view c.args.seat.now in
    let w = broom_view c.get_stamp-stamp.new.broom in
    let sectors = sectors_are (goal.at.returns-then-stamp-from-clause-sweeps c).After-sectors in
    let past = c.if-stamp-from.true in
    let from = c.from.ensures in
    let e = (c.get_stamp-stamp.ensures.stamp x h.draining).dead (omega arith) in
    sweeps_on c.args.flash.now (pages_of (geometry_of c.args.flash.now)) c.args.seat.now c.get_stamp-stamp.new.broom x h
    c.get_stamp-stamp.ensures.broom c.get_stamp-stamp.ensures.blocks (ap (λ (y : View). y.work) e)
    (callers_same v w None (v.cleared + 1) e h.callers)

-- the stamp's sector is the device's, and the page is the source
source_is : (c : After-found)
    → broom_view c.get_stamp-stamp.new.broom
    ≡ record (broom_view c.args.seat.now) { source = Some (record { page = c.args.page; stamp = c.get_stamp-stamp.result; value = None }) }
source_is c =
    let t = c.requires.next in
    let sectors = sectors_are (goal.at.After-found c).After-sectors in
    let below = c.if-stamp-from.false in
    let from = c.from.ensures in
    let e = (c.get_stamp-stamp.ensures.stamp t.0 t.1.draining).sector (omega arith) in
    let page : victim_page t.0 (broom_view c.args.seat.now).cleared ≡ c.args.page = ap (victim_page t.0) (sym c.requires.cleared) ∙ sym t.2.0 in
    e ∙ (λ i. record (broom_view c.args.seat.now) { source = Some (record { page = page i; stamp = c.get_stamp-stamp.result; value = None }) })

-- the part up to the look
began : (c : After-found) → Relocated (broom_view c.args.seat.now) 0 (broom_view c.get_stamp-stamp.new.broom)
began c = let v = broom_view c.args.seat.now in
    relocated_source v (broom_view c.get_stamp-stamp.new.broom) (Some (record { page = c.args.page; stamp = c.get_stamp-stamp.result; value = None }))
    v.cleared (source_is c)

alone : (c : After-found) → Untouched (broom_view c.args.seat.now) (broom_view c.get_stamp-stamp.new.broom)
alone c = let v = broom_view c.args.seat.now in
    untouched_source v (broom_view c.get_stamp-stamp.new.broom) (Some (record { page = c.args.page; stamp = c.get_stamp-stamp.result; value = None }))
    v.cleared (source_is c)

sweeping : (c : After-found) (x : ReclaimedBlock) → Sweeps c.args.flash.now c.args.seat.now x → Sweeps c.args.flash.now c.broom_look-named.new.broom x
sweeping c x h =
    let y = broom_view c.broom_look-named.new.broom in
    let look = c.broom_look-named.ensures in
    sweeps_on c.args.flash.now (pages_of (geometry_of c.args.flash.now)) c.args.seat.now c.broom_look-named.new.broom x h look.broom
    (look.blocks ∙ c.get_stamp-stamp.ensures.blocks) (ap (λ (z : View). z.work) look.named.changed ∙ ap (λ (z : View). z.work) (source_is c))
    (look_callers (broom_view c.get_stamp-stamp.new.broom) y c.get_stamp-stamp.result c.broom_look-named.result look.named)

pub returns-then-found-clause-found : goal.returns-then-found-clause-found
returns-then-found-clause-found c =
    let at = (goal.at.returns-then-found-clause-found c).After-found in
    let v = broom_view c.args.seat.now in
    let w = broom_view c.get_stamp-stamp.new.broom in
    let y = broom_view c.broom_look-named.new.broom in
    let e = source_is at in
    let sectors = sectors_are (goal.at.After-found at).After-sectors in
    let below = c.if-stamp-from.false in
    let from = c.from.ensures in
    let numbers : w.numbers.sectors ≡ v.numbers.sectors = ap (λ (z : View). z.numbers.sectors) e in
    found_live_then v w y c.args.page c.get_stamp-stamp.result (began at) (ap (λ (z : View). z.cleared) e) (alone at)
    (look_live w y c.get_stamp-stamp.result c.broom_look-named.result c.broom_look-named.ensures.named c.args.page
    (ap (λ (z : View). z.source) e) (omega arith) c.if-found.ensures)

pub returns-then-found-clause-sweeps : goal.returns-then-found-clause-sweeps
returns-then-found-clause-sweeps c = sweeping (goal.at.returns-then-found-clause-sweeps c).After-found

pub returns-else-found-clause-found : goal.returns-else-found-clause-found
returns-else-found-clause-found c =
    let at = (goal.at.returns-else-found-clause-found c).After-found in
    let w = broom_view c.get_stamp-stamp.new.broom in
    let y = broom_view c.broom_look-named.new.broom in
    let e = source_is at in
    let t = c.requires.next in
    let fits = subst FitsMap (sym t.2.0)
    (page_fits c.args.flash.now (pages_of (geometry_of c.args.flash.now)) c.args.seat.now t.0 c.args.page.page t.1 t.2.1) in
    found_dead_then (broom_view c.args.seat.now) w y c.args.page (began at) (ap (λ (z : View). z.cleared) e) (alone at)
    (look_dead w y c.get_stamp-stamp.result c.broom_look-named.result c.broom_look-named.ensures.named c.args.page
    (ap (λ (z : View). z.source) e) c.broom_look-named.ensures.fits fits c.if-found.ensures)

pub returns-else-found-clause-sweeps : goal.returns-else-found-clause-sweeps
returns-else-found-clause-sweeps c = sweeping (goal.at.returns-else-found-clause-sweeps c).After-found
