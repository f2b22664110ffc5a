use Rattle.std.proofs.{Common.◌<◌, Common.◌*◌, Common.Some, Common.sym, Common.ap, Common.◌∙◌, Common.arith, lemmas.List.Elements.All-pop}
use Rattle.geometry.specs.Geometry.{blocks_of, sectors_of, page_bytes_of, hosts_of, brooms_of}
use Rattle.geometry.specs.{Limits.Numbers, declared.limits.TheConstants.WORD_BYTES}
use Rattle.flash_table.specs.Flash.{geometry_of}
use Rattle.broom.specs.Ready.{IsRested}
use Rattle.host.specs.Ready.{IsReady}
use Rattle.volume.proofs.{Answered.all_fresh, FreshBrooms.all_rested}
use Rattle.shared_acceptance.proofs.models.words.open.Goals as goal

pub invariant_of-result : goal.invariant_of-result
invariant_of-result g c =
    let f = c.in_ok-flash.flash in
    let told = c.in_ok-flash.ensures in
    let same = told.geometry in
    let given = c.in_ok-geometry.ensures.given in
    let hosts : 0 < hosts_of (geometry_of f) = omega (arith, ap hosts_of same, ap (λ (z : Numbers). z.hosts) given) in
    let passes = all_fresh f c.in_ok-flash.passes.items told.passes in
    let last = All-pop (IsReady f) c.in_ok-flash.passes.items c.pop-2.new.self.items (Some c.in-Some-pop.b) c.in-Some-pop.ensures.items passes in
    let seats = all_rested f c.in_ok-flash.seats.items hosts (told.count.1 ∙ ap brooms_of (sym same)) told.brooms in
    let watcher = All-pop (IsRested f) c.in_ok-flash.seats.items c.pop-4.new.self.items (Some c.in-Some-pop-3.watcher) c.in-Some-pop-3.ensures.items seats in
    let seat = All-pop (IsRested f) c.pop-4.new.self.items c.pop-5.new.self.items (Some c.in-Some-pop-4.seat) c.in-Some-pop-4.ensures.items watcher.0 in
    let swept = All-pop (IsRested f) c.pop-5.new.self.items c.pop-6.new.self.items (Some c.in-Some-pop-5.first) c.in-Some-pop-5.ensures.items seat.0 in
    record {
      sectors = ap sectors_of same ∙ ap (λ (z : Numbers). z.sectors) given;
      blocks = ap blocks_of same ∙ ap (λ (z : Numbers). z.blocks) given;
      bytes = ap page_bytes_of same ∙ ap (λ (z : Numbers). WORD_BYTES * z.words) given;
      a_ready = (All-pop (IsReady f) c.pop-2.new.self.items c.pop-3.new.self.items (Some c.in-Some-pop-2.a) c.in-Some-pop-2.ensures.items last.0).1;
      b_ready = last.1;
      broom_ready = c.in-Ok.ensures.ready f same swept.1;
      rested = seat.1;
      watcher_rested = watcher.1;
    }
