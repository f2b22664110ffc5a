use Rattle.std.proofs.Common.{◌≡◌, ℕ, [], ◌<◌, ◌∷◌, ◌++◌, List, None, Some, length, sym, ap, ◌∙◌, subst, arith}
use Rattle.geometry.specs.{Geometry.sectors_of, Limits.Numbers}
use Rattle.broom.specs.declared.broom.TheConstants.{NOT_LOADED}
use Rattle.flash_table.specs.Flash.{broom_view, own_blocks, geometry_of}
use Rattle.broom.proofs.Counting.{Counts, counted_none, counted_more, counts_empty, counts_other, counts_live, counted_all, generation_at, look_within}
use Rattle.broom.proofs.survey.count_pages.Goals.{In-Some, then-states-block, else-states-block}
use Rattle.broom.proofs.survey.count_pages.Goals as goal

pub loop-sector-init : goal.loop-sector-init
loop-sector-init c = counted_none c.args.flash.now c.args.seat.now c.args.states.now c.fill.new.self
    (length c.args.counts.now) c.requires.seat c.requires.callers (c.fill.ensures.after (λ y is. is))

pub loop-sector-preserved-in_default : goal.loop-sector-preserved-in_default
loop-sector-preserved-in_default c =
    let h = c.loop-sector.invariant in
    counted_more c.args.flash.now (broom_view c.args.seat.now) (own_blocks c.args.seat.now) c.args.states.now c.loop-sector.sector c.loop-sector.seat
    c.broom_look.new.broom c.loop-sector.counts c.loop-sector.counts None c.requires.source h
    c.broom_look.ensures.broom c.broom_look.ensures.blocks tt c.in_default.ensures.named (counts_empty c.args.states.now h.pages c.loop-sector.counts h.counted)

-- the page that was found lies in a block of this device
found_low : (c : In-Some) → c.in-Some.page.block < length c.args.states.now
found_low c =
    let within = look_within (broom_view c.loop-sector.seat)
    (broom_view c.broom_look.new.broom) c.loop-sector.sector c.in-Some.page c.in-Some.ensures.fits c.in-Some.ensures.named in
    let blocks = ap (λ (z : Numbers). z.blocks) c.loop-sector.invariant.seat.numbers in
    let states = c.requires.states in
    let low = within.0 in omega arith

pub loop-sector-preserved : goal.loop-sector-preserved
loop-sector-preserved c =
    let at = (goal.at.loop-sector-preserved c).In-Some in
    let h = c.loop-sector.invariant in
    let page = c.in-Some.page in
    let low = found_low at in
    let states = c.requires.states in
    let counts = c.requires.counts in
    let kept = c.loop-sector.auto.counts in
    let len = c.fill.ensures.len in
    let same = generation_at c.args.states.now page.block NOT_LOADED low in
    let more = counted_more c.args.flash.now (broom_view c.args.seat.now)
    (own_blocks c.args.seat.now) c.args.states.now c.loop-sector.sector c.loop-sector.seat c.broom_look.new.broom c.loop-sector.counts
    c.if-states-block.counts (Some page) c.requires.source h
    c.broom_look.ensures.broom c.broom_look.ensures.blocks c.in-Some.ensures.fits c.in-Some.ensures.named in
    let P : List ℕ → Type 0 = λ l. Counts c.args.states.now (h.pages ++ Some page ∷ []) l in
    elim c.if-states-block.branch [
      | then-states-block w ↦ more
          (subst P (sym w.counts-is) (counts_live c.args.states.now h.pages c.loop-sector.counts page h.counted (same ∙ w.if-states-block.true) (omega arith)))
      | else-states-block w ↦ more
          (subst P (sym w.counts-is) (counts_other c.args.states.now h.pages c.loop-sector.counts page h.counted (λ e. w.if-states-block.false (sym same ∙ e))))
    ]

pub returns-clause-counted : goal.returns-clause-counted
returns-clause-counted c =
    let f = c.args.flash.now in
    let sectors : c.sectors-sector-end.result ≡ sectors_of (geometry_of f) = c.sectors-sector-end.ensures.value ∙ ap sectors_of c.geometry.ensures in
    let numbers = ap (λ (z : Numbers). z.sectors) c.requires.seat.numbers in
    let most = c.loop-sector.auto.sector-end in
    let least = c.loop-sector-test.false in
    let states = c.requires.states in
    let counts = c.requires.counts in
    let kept = c.loop-sector.auto.counts in
    let len = c.fill.ensures.len in
    counted_all f (broom_view c.args.seat.now) (own_blocks c.args.seat.now) c.args.states.now c.loop-sector.sector c.loop-sector.seat
    c.loop-sector.counts c.loop-sector.invariant (omega arith) (omega arith)
