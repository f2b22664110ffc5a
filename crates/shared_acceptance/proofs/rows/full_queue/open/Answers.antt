use Rattle.std.proofs.Common.{ℕ, ◌<◌, ◌*◌, Option, Some, IfSome, sym, ap, ◌∙◌, subst, arith}
use Rattle.std.proofs.lemmas.List.Elements.{All-pop}
use Rattle.geometry.specs.Geometry.{blocks_of, sectors_of, page_bytes_of, hosts_of, brooms_of}
use Rattle.geometry.specs.{Limits.Numbers, declared.limits.TheConstants.WORD_BYTES}
use Rattle.erase_queue.specs.Queue.{IsNewPass, IsPassOf, limit_of}
use Rattle.flash_table.specs.Flash.{geometry_of}
use Rattle.broom.specs.Ready.{IsRested}
use Rattle.host.specs.Ready.{IsReady}
use Rattle.volume.proofs.{Answered.all_fresh, FreshBrooms.all_rested}
use Rattle.shared_acceptance.proofs.rows.full_queue.open.Goals as goal

pub invariant_of-result : goal.invariant_of-result
invariant_of-result g c =
    let f = c.in_ok-flash.flash in
    let queue = c.in_ok-queue.queue in
    let opened = c.in_ok-flash.ensures in
    let same = opened.geometry in
    let given = c.in_ok-geometry.ensures.given in
    let hosts : 0 < hosts_of (geometry_of f) = omega (arith, ap hosts_of same, ap (λ (z : Numbers). z.hosts) given) in
    let passes = all_fresh f c.in_ok-flash.passes.items opened.passes in
    let last = All-pop (IsReady f) c.in_ok-flash.passes.items c.pop-2.new.self.items (Some c.in-Some-pop.b) c.in-Some-pop.ensures.items passes in
    let seats = all_rested f c.in_ok-flash.seats.items hosts (opened.count.1 ∙ ap brooms_of (sym same)) opened.brooms in
    let seat = All-pop (IsRested f) c.in_ok-flash.seats.items c.pop-4.new.self.items (Some c.in-Some-pop-3.seat) c.in-Some-pop-3.ensures.items seats in
    let place = All-pop (IsNewPass queue) c.fill.new.places.items c.pop.new.self.items (Some c.in-Some.place) c.in-Some.ensures.items c.fill.ensures.places in
    record {
      sectors = ap sectors_of same ∙ ap (λ (z : Numbers). z.sectors) given;
      bytes = ap page_bytes_of same ∙ ap (λ (z : Numbers). WORD_BYTES * z.words) given;
      limit = c.in_ok-queue.ensures.limit ∙ sym (ap blocks_of same ∙ ap (λ (z : Numbers). z.blocks) given);
      a_ready = (All-pop (IsReady f) c.pop-2.new.self.items c.pop-3.new.self.items (Some c.in-Some-pop-2.a) c.in-Some-pop-2.ensures.items last.0).1;
      b_ready = last.1;
      broom_ready = c.in-Ok.ensures.ready f same seat.1;
      queued = record {
        place = subst (IsPassOf queue) (sym c.in-Ok.ensures.queue.0) place.1.queue;
        aside = subst (λ (o : Option ℕ). IfSome o (λ block. block < limit_of queue)) (sym c.in-Ok.ensures.queue.1) tt;
      };
    }
