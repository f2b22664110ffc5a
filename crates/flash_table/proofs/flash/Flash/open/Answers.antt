use Rattle.flash_rule.specs.{Seats.dealt_pass, Seats.new_pass, Seats.dealt_broom, Seats.new_broom, Seats.Ruled, Seats.dealer}
use Rattle.flash_rule.proofs.{Splitting.deals_pass, DealingBrooms.deals_broom, Opening.opening_ruled}
use Rattle.atomic_table.specs.Table.{Splits, opening}
use Rattle.std.proofs.Common.{◌≡◌, ℕ, ◌+◌, ◌-◌, ◌<◌, List, [], None, Some, length, sym, refl, ap, ◌∙◌, subst, arith}
use Rattle.geometry.specs.{Geometry.numbers_of, Limits.Numbers}
use Rattle.flash_table.specs.{declared.broom_seat.Reclaiming.TheVariants.Nothing, Flash.spare_of}
use Rattle.flash_table.proofs.DealtPasses.{deals_next, next_owned, deals_next_broom}
use Rattle.flash_table.proofs.flash.Flash.open.Goals as goal

pub of_words-requires : goal.of_words-requires
of_words-requires c =
    let z : Numbers = numbers_of c.args.geometry.now in
    let P : List ℕ → Type 0 = λ words. Ruled z (opening words [] (dealer z)) in
    subst P (sym (c.deref.ensures.value ∙ c.in_ok-words.ensures)) (opening_ruled z c.args.geometry.now.in_limits)

pub split_seat-seat-requires : goal.split_seat-seat-requires
split_seat-seat-requires c =
    let h = c.loop.invariant.0 in
    let v = c.loop.dealer.me.0 in
    let t = c.in_ok-table.ensures in
    let some_sector = c.args.geometry.now.in_limits.sectors_low in
    let below = c.loop-test.true in
    let hosts = c.hosts-hosts.ensures.value in
    let z : Numbers = numbers_of c.args.geometry.now in
    let size =
    t.0 ∙ (ap (length {A = ℕ}) (c.deref.ensures.value ∙ c.in_ok-words.ensures) ∙ (opening_ruled z c.args.geometry.now.in_limits).1.size) in
    let same : numbers_of c.in_ok-table.table.shared.key ≡ numbers_of c.args.geometry.now = ap numbers_of t.5 in
    let count = h.count in
    let theirs : c.loop.dealer.me.0.numbers.hosts ≡ (numbers_of c.args.geometry.now).hosts = ap (λ (y : Numbers). y.hosts) h.numbers in (
      h.table,
      omega arith,
      subst (λ x. Splits (Ruled x) c.loop.dealer.id v (dealt_pass v) (new_pass v)) (sym same) (deals_pass z c.loop.dealer.id v h.role (omega arith)),
    )

pub loop-preserved : goal.loop-preserved
loop-preserved c =
    let s = c.split_seat-seat.ensures in
    let next = deals_next _ c.loop.dealer c.split_seat-seat.new.seat c.loop.passes.items _ c.loop.counter c.loop.invariant.0 s.0
    (ap (λ x. x.0) s.2) s.3 (ap (λ x. x.0) s.4) refl in
    (rw c.push_reserved.ensures.items next, (let e = c.push_reserved.ensures.capacity in let r = c.loop.invariant.1 in omega arith))

pub split_seat-seat-requires-in-loop-i : goal.split_seat-seat-requires-in-loop-i
split_seat-seat-requires-in-loop-i c =
    let h = c.loop-i.invariant.0 in
    let v = c.loop-i.dealer.me.0 in
    let t = c.in_ok-table.ensures in
    let z : Numbers = numbers_of c.args.geometry.now in
    let some_sector = c.args.geometry.now.in_limits.sectors_low in
    let size =
    t.0 ∙ (ap (length {A = ℕ}) (c.deref.ensures.value ∙ c.in_ok-words.ensures) ∙ (opening_ruled z c.args.geometry.now.in_limits).1.size) in
    let same : numbers_of c.in_ok-table.table.shared.key ≡ z = ap numbers_of t.5 in
    let below = c.loop-i-test.true in
    let brooms = c.brooms-count.ensures.value in
    let more : c.loop-i.i < z.brooms = omega arith in (
      h.table,
      omega arith,
      subst (λ x. Splits (Ruled x) c.loop-i.dealer.id v (dealt_broom v) (new_broom v)) (sym same)
          (deals_broom z c.loop-i.dealer.id v h.role (next_owned z v c.loop-i.i h.numbers h.count h.owns more)),
    )

pub loop-i-preserved : goal.loop-i-preserved
loop-i-preserved c =
    let s = c.split_seat-seat-in-loop-i.ensures in
    let z : Numbers = numbers_of c.args.geometry.now in
    let below = c.loop-i-test.true in
    let brooms = c.brooms-count.ensures.value in
    let blocks = c.blocks-2.ensures.value in
    let more : c.loop-i.i < z.brooms = omega arith in
    let place : (c.blocks-2.result - c.brooms-count.result) + c.loop-i.i ≡ spare_of z c.loop-i.i = λ i. (blocks i - brooms i) + c.loop-i.i in
    let given = c.blocks_with_spare.ensures
    ∙ (λ i. record { destination = None; spare = Some (record { block = place i; generation = 0; written = 0 }); reclaiming = Nothing }) in
    let next = deals_next_broom _ c.loop-i.dealer c.split_seat-seat-in-loop-i.new.seat c.loop-i.brooms.items _ c.loop-i.i c.loop-i.invariant.0 more
    s.0 (ap (λ x. x.0) s.2) s.3 (ap (λ x. x.0) s.4) given in
    (rw c.push_reserved-in-loop-i.ensures.items next, (let e = c.push_reserved-in-loop-i.ensures.capacity in let r = c.loop-i.invariant.1 in omega arith))
