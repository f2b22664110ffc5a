use Rattle.broom.proofs.{relocation.close_if_full.Goals.In-Some, relocation.close_if_full.Goals.After-pages}
use Rattle.std.proofs.Common.{◌≡◌, Some, sym, ap, ◌∙◌, arith}
use Rattle.geometry.specs.Geometry.{pages_of}
use Rattle.flash_rule.specs.Views.{without}
use Rattle.flash_table.specs.{declared.broom_seat.BroomBlocks.BroomBlocks, Flash.broom_view, Flash.own_blocks, Flash.geometry_of}
use Rattle.broom.proofs.Clearing.{closed_tidied, closed_sweeps, left_tidied}
use Rattle.broom.proofs.relocation.close_if_full.Goals as goal

opened : (c : In-Some) → (own_blocks c.args.seat.now).destination ≡ Some c.in-Some.destination
opened c = ap (λ (x : BroomBlocks). x.destination) (sym c.blocks-2.ensures) ∙ c.in-Some.is

pages_are : (c : After-pages) → c.pages.result ≡ pages_of (geometry_of c.args.flash.now)
pages_are c = c.pages.ensures.value ∙ ap pages_of c.geometry.ensures

pub returns-then-destination-pages-clause-tidied : goal.returns-then-destination-pages-clause-tidied
returns-then-destination-pages-clause-tidied c =
    let at = goal.at.returns-then-destination-pages-clause-tidied c in
    let o = c.in-Some.destination in
    let is = opened at.In-Some in
    closed_tidied c.args.flash.now c.args.seat.now o is c.close_destination.new.broom (without o.block (broom_view c.args.seat.now).owns)
    (c.close_destination.ensures.closed o is) c.close_destination.ensures.blocks
    (let full = c.if-destination-pages.true in let pages = pages_are at.After-pages in omega (arith, full, pages))

pub returns-then-destination-pages-clause-sweeps : goal.returns-then-destination-pages-clause-sweeps
returns-then-destination-pages-clause-sweeps c x =
    let at = goal.at.returns-then-destination-pages-clause-sweeps c in
    let o = c.in-Some.destination in
    let is = opened at.In-Some in
    closed_sweeps c.args.flash.now c.args.seat.now o is c.close_destination.new.broom (without o.block (broom_view c.args.seat.now).owns)
    (c.close_destination.ensures.closed o is) c.close_destination.ensures.blocks
    (let full = c.if-destination-pages.true in let pages = pages_are at.After-pages in omega (arith, full, pages)) x c.close_destination.ensures.broom

pub returns-else-destination-pages-clause-tidied : goal.returns-else-destination-pages-clause-tidied
returns-else-destination-pages-clause-tidied c = let at = goal.at.returns-else-destination-pages-clause-tidied c in
    left_tidied c.args.flash.now c.args.seat.now c.in-Some.destination (opened at.In-Some)
    (λ e. let pages = pages_are at.After-pages in c.if-destination-pages.false (omega (arith, e, pages)))
