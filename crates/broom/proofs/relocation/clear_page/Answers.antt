use Rattle.std.proofs.Common.{◌≡◌, ℕ, ◌+◌, ◌<◌, MatchBool, Some, sym, refl, ap, ◌∙◌, subst}
use Rattle.geometry.specs.{Geometry.pages_of, Limits.Numbers, Words.FitsMap, Words.map_word}
use Rattle.flash_rule.specs.{declared.facts.Source.Source, declared.view.View.View, Rule.IsValue, BroomPlays.Moved}
use Rattle.flash_table.specs.declared.{broom_seat.BroomBlocks.BroomBlocks, broom_seat.ReclaimedBlock.ReclaimedBlock, pass.OpenBlock.OpenBlock}
use Rattle.flash_table.specs.Flash.{broom_view, own_blocks, geometry_of}
use Rattle.broom.specs.Relocating.{IsSweeping, Sweeps, FoundLive, Copied, room_left}
use Rattle.broom.proofs.Sweeping.{page_fits, sweeps_on}
use Rattle.broom.proofs.Clearing.{dead_cleared, opened_some, opened_sweeps, copy_fits, moved_callers, live_cleared}
use Rattle.broom.proofs.relocation.clear_page.{Given.Over, Goals.After-open_destination, Goals.After-copy_page-copy, Goals.After-move_to-moved}
use Rattle.broom.proofs.relocation.clear_page.Goals as goal

-- the page is live, and is the source
live : (g : Over) (c : After-open_destination g) → FoundLive (broom_view c.args.seat.now) c.args.page c.in-Some.sector (broom_view c.live_sector.new.seat)
live g c = c.in-Some.ensures.found

-- the destination, once it is opened
destination : (g : Over) (c : After-open_destination g) → (o : OpenBlock) × ((own_blocks c.open_destination.new.seat).destination ≡ Some o)
destination g c =
    opened_some c.args.flash.now c.live_sector.new.seat c.open_destination.new.seat c.open_destination.ensures.opened (pages_of (geometry_of c.args.flash.now))
    (subst (λ (x : BroomBlocks). 0 < room_left (pages_of (geometry_of c.args.flash.now)) x) (sym c.live_sector.ensures.blocks) c.requires.room)

-- the broom still sweeps its victim then
sweeping : (g : Over) (c : After-open_destination g) (x : ReclaimedBlock) → Sweeps c.args.flash.now c.args.seat.now x
    → Sweeps c.args.flash.now c.open_destination.new.seat x
sweeping g c x h =
    let f = c.args.flash.now in
    let there = c.live_sector.ensures.sweeps x h in
    opened_sweeps f c.live_sector.new.seat c.open_destination.new.seat c.open_destination.ensures.opened x (c.open_destination.ensures.broom f there.seat) there

source_is : (g : Over) (c : After-open_destination g)
    → (broom_view c.open_destination.new.seat).source ≡ Some (record { page = c.args.page; stamp = c.in-Some.sector; value = Some (live g c).value })
source_is g c = ap (λ (v : View). v.source) c.open_destination.ensures.opened.view ∙ (live g c).source

pub copy_page-copy-requires-clause-sweeps : goal.copy_page-copy-requires-clause-sweeps
copy_page-copy-requires-clause-sweeps g c =
    let t = c.requires.next in (t.0, sweeping g ((goal.at.copy_page-copy-requires-clause-sweeps g c).After-open_destination) t.0 t.1, t.2)

pub copy_page-copy-requires-clause-destination : goal.copy_page-copy-requires-clause-destination
copy_page-copy-requires-clause-destination g c = destination g (goal.at.copy_page-copy-requires-clause-destination g c).After-open_destination

-- the copy, counted
the_copy : (g : Over) (c : After-copy_page-copy g)
    → let at = (goal.at.After-copy_page-copy g c).After-open_destination in
    Copied (broom_view c.open_destination.new.seat) (destination g at).0
    (record { page = c.args.page; stamp = c.in-Some.sector; value = Some (live g at).value }) c.copy_page-copy.result (broom_view c.copy_page-copy.new.seat)
the_copy g c =
    let at = (goal.at.After-copy_page-copy g c).After-open_destination in
    let t = destination g at in
    let l = live g at in
    let numbers = ap (λ (v : View). v.numbers) c.open_destination.ensures.opened.view ∙ ap (λ (v : View). v.numbers) l.went.changed in
    c.copy_page-copy.ensures.copied t.0 l.value t.1 (source_is g at) (subst (λ (z : Numbers). IsValue z l.value) (sym numbers) l.whole)

copied_sweeps : (g : Over) (c : After-copy_page-copy g) (x : ReclaimedBlock) → Sweeps c.args.flash.now c.args.seat.now x
    → IsSweeping c.args.flash.now (pages_of (geometry_of c.args.flash.now) + 1) c.copy_page-copy.new.seat x
copied_sweeps g c x h = c.copy_page-copy.ensures.sweeps x (sweeping g (goal.at.After-copy_page-copy g c).After-open_destination x h)

pub move_to-moved-requires-clause-broom : goal.move_to-moved-requires-clause-broom
move_to-moved-requires-clause-broom g c = let t = c.requires.next in
    (copied_sweeps g (goal.at.move_to-moved-requires-clause-broom g c).After-copy_page-copy t.0 t.1).seat

pub move_to-moved-requires-clause-fits : goal.move_to-moved-requires-clause-fits
move_to-moved-requires-clause-fits g c =
    let f = c.args.flash.now in
    let at = (goal.at.move_to-moved-requires-clause-fits g c).After-copy_page-copy in
    let opened = (goal.at.After-copy_page-copy g at).After-open_destination in
    let t = c.requires.next in
    let d = destination g opened in
    let from = subst FitsMap (sym t.2.0) (page_fits f (pages_of (geometry_of f)) c.args.seat.now t.0 c.args.page.page t.1 t.2.1) in
    (from, subst FitsMap (sym (the_copy g at).is) (copy_fits f d.0 ((sweeping g opened t.0 t.1).destination d.0 d.1)))

pub move_to-moved-requires-clause-live : goal.move_to-moved-requires-clause-live
move_to-moved-requires-clause-live g c =
    let at = (goal.at.move_to-moved-requires-clause-live g c).After-copy_page-copy in
    let l = live g (goal.at.After-copy_page-copy g at).After-open_destination in
    let x : Source = record { page = c.args.page; stamp = c.in-Some.sector; value = Some l.value } in (x, (the_copy g at).can, (refl, refl))

-- what the exchange told
the_move : (g : Over) (c : After-move_to-moved g)
    → let at = (goal.at.After-move_to-moved g c).After-open_destination in
    let x : Source = record { page = c.args.page; stamp = c.in-Some.sector; value = Some (live g at).value } in
    (n : ℕ) × Moved (broom_view c.copy_page-copy.new.seat) x n (broom_view c.move_to-moved.new.broom)
    × MatchBool c.move_to-moved.result (n ≡ map_word c.args.page) (¬ (n ≡ map_word c.args.page))
the_move g c =
    let at = (goal.at.After-move_to-moved g c).After-copy_page-copy in
    let l = live g (goal.at.After-copy_page-copy g at).After-open_destination in
    c.move_to-moved.ensures.moved (record { page = c.args.page; stamp = c.in-Some.sector; value = Some l.value }) (the_copy g at).can.is

moved_sweeps : (g : Over) (c : After-move_to-moved g) (x : ReclaimedBlock) → Sweeps c.args.flash.now c.args.seat.now x
    → IsSweeping c.args.flash.now (pages_of (geometry_of c.args.flash.now) + 1) c.move_to-moved.new.broom x
moved_sweeps g c x h =
    let f = c.args.flash.now in
    let at = (goal.at.After-move_to-moved g c).After-copy_page-copy in
    let opened = (goal.at.After-move_to-moved g c).After-open_destination in
    let t = the_move g c in
    let v = broom_view c.copy_page-copy.new.seat in
    let w = broom_view c.move_to-moved.new.broom in
    sweeps_on f (pages_of (geometry_of f) + 1) c.copy_page-copy.new.seat c.move_to-moved.new.broom x
    (copied_sweeps g at x h) c.move_to-moved.ensures.broom c.move_to-moved.ensures.blocks (ap (λ (y : View). y.work) t.1.changed)
    (moved_callers v w (record { page = c.args.page; stamp = c.in-Some.sector; value = Some (live g opened).value }) t.0 c.move_to-moved.result t.1 t.2)

pub close_if_full-requires-clause-sweeps : goal.close_if_full-requires-clause-sweeps
close_if_full-requires-clause-sweeps g c =
    let t = c.requires.next in (t.0, moved_sweeps g ((goal.at.close_if_full-requires-clause-sweeps g c).After-move_to-moved) t.0 t.1)

pub close_if_full-requires-clause-destination : goal.close_if_full-requires-clause-destination
close_if_full-requires-clause-destination g c =
    let d = destination g ((goal.at.close_if_full-requires-clause-destination g c).After-open_destination) in (
      record d.0 { written = d.0.written + 1 },
      ap (λ (x : BroomBlocks). x.destination) (c.move_to-moved.ensures.blocks ∙ c.copy_page-copy.ensures.blocks d.0 d.1),
    )

pub returns-in_default-clause-page : goal.returns-in_default-clause-page
returns-in_default-clause-page g c =
    dead_cleared (pages_of (geometry_of c.args.flash.now)) (broom_view c.args.seat.now) (broom_view c.live_sector.new.seat)
    (own_blocks c.args.seat.now) (own_blocks c.live_sector.new.seat) c.args.page c.in_default.ensures.found c.live_sector.ensures.blocks

pub returns-clause-page : goal.returns-clause-page
returns-clause-page g c =
    let moved = (goal.at.returns-clause-page g c).After-move_to-moved in
    let opened = (goal.at.After-move_to-moved g moved).After-open_destination in
    let d = destination g opened in
    let h = c.requires.next in
    let t = the_move g moved in
    let room = (sweeping g opened h.0 h.1).destination d.0 d.1 in
    live_cleared c.args.flash.now c.args.seat.now c.live_sector.new.seat c.open_destination.new.seat c.copy_page-copy.new.seat c.move_to-moved.new.broom
    c.close_if_full.new.seat c.args.page c.in-Some.sector (live g opened) c.live_sector.ensures.blocks
    c.open_destination.ensures.opened d.0 room.room d.1 c.copy_page-copy.result (the_copy g ((goal.at.After-move_to-moved g moved).After-copy_page-copy))
    (c.copy_page-copy.ensures.blocks d.0 d.1) t.0 c.move_to-moved.result t.1 t.2 c.move_to-moved.ensures.blocks c.close_if_full.ensures.tidied

pub returns-clause-sweeps : goal.returns-clause-sweeps
returns-clause-sweeps g c x h = c.close_if_full.ensures.sweeps x (moved_sweeps g (goal.at.returns-clause-sweeps g c).After-move_to-moved x h)
