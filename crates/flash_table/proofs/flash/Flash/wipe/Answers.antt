use Rattle.flash_table.proofs.{Permissions.whose, Permissions.IsPlace, Permissions.of_broom, BroomSteps.wipe_here, Blocks.just_now}
use Rattle.std.proofs.Common.{◌≡◌, ◌+◌, ap, arith, subst}
use Rattle.geometry.specs.Words.{page_index}
use Rattle.flash_table.specs.Flash.{device, broom_view}
use Rattle.flash_table.proofs.{BroomResults.stays_broom, flash.Flash.wipe.Goals.After-store}
use Rattle.flash_table.proofs.BroomResults.{can_wipe, wiped_within, wipe_view}
use Rattle.flash_table.proofs.flash.Flash.wipe.Goals as goal

pub overflow_add-place : goal.overflow_add-place
overflow_add-place c =
    let f = c.args.self.now in
    let t = c.requires.erasing in
    let start = c.requires.start t.0 t.1.its in
    let low = wiped_within (device f) t.0.block c.args.i t.1.low c.requires.word in
    let table = f.geometry.in_limits.table in omega arith

pub store-requires : goal.store-requires
store-requires c =
    let f = c.args.self.now in
    let t = c.requires.erasing in
    let next = c.requires.next in
    let start = c.requires.start t.0 t.1.its in
    let low = wiped_within (device f) t.0.block c.args.i t.1.low c.requires.word in
    wipe_here (of_broom c.requires.broom) _ (subst (λ k. IsPlace f (page_index (device f) t.0.block 0 + k)) next low) (omega arith)
    (can_wipe c.requires.broom t.0 c.args.i t.1.its next c.requires.word)

-- the broom has wiped one word more, and nothing else has changed
changed : (c : After-store) → c.store.new.seat.me.0 ≡ record (broom_view c.args.broom.now) { wiped = c.args.i + 1 }
changed c =
    let t = c.requires.erasing in
    let can = can_wipe c.requires.broom t.0 c.args.i t.1.its c.requires.next c.requires.word in
    let at : c.args.start + c.args.i ≡ page_index (device c.args.self.now) t.0.block 0 + c.args.i = ap (λ n. n + c.args.i) (c.requires.start t.0 t.1.its) in
    wipe_view c.requires.broom c.args.i t.0 can c.requires.next at c.store.ensures.2

pub invariant_of-broom-clause-owns : goal.invariant_of-broom-clause-owns
invariant_of-broom-clause-owns c =
    just_now (changed (goal.at.invariant_of-broom-clause-owns c).After-store) c.args.broom.now.owns

pub returns-clause-wiped : goal.returns-clause-wiped
returns-clause-wiped c = changed (goal.at.returns-clause-wiped c).After-store

pub returns-clause-broom : goal.returns-clause-broom
returns-clause-broom c = stays_broom c.requires.broom c.store.ensures.0 (ap whose (changed (goal.at.returns-clause-broom c).After-store))
