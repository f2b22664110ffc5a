use Rattle.std.proofs.Common.{◌≡◌, ℕ, ◌+◌, ◌≤◌, sym, ap, ◌∙◌, subst, arith}
use Rattle.geometry.specs.Geometry.{pages_of}
use Rattle.flash_table.specs.declared.broom_seat.{BroomBlocks.BroomBlocks, ReclaimedBlock.ReclaimedBlock}
use Rattle.flash_table.specs.Flash.{broom_view, own_blocks, geometry_of}
use Rattle.broom.specs.{Emptying.HasEmptied, Emptying.count_if, Relocating.Sweeps, Relocating.room_left}
use Rattle.broom.proofs.Clearing.{clearing_none, clearing_more, same_victim}
use Rattle.broom.proofs.relocation.relocate.{Given.Over, Goals.In-Draining, Goals.then-clear_page, Goals.else-clear_page}
use Rattle.broom.proofs.relocation.relocate.Goals as goal

-- a block that the broom sweeps is the one that the code found
is_victim : (g : Over) (c : In-Draining g) (x : ReclaimedBlock) → Sweeps c.args.flash.now c.args.seat.now x → x ≡ c.in-Draining.victim
is_victim g c x h = same_victim x c.in-Draining.victim (sym h.draining ∙ (ap (λ (y : BroomBlocks). y.reclaiming) (sym c.blocks-2.ensures) ∙ c.in-Draining.is))

pub loop-page-init : goal.loop-page-init
loop-page-init g c =
    let f = c.args.flash.now in
    let t = c.requires.sweeps in
    let same = is_victim g (goal.at.loop-page-init g c).In-Draining t.0 t.1 in
    let room = subst (λ (x : ReclaimedBlock). x.written ≤ room_left (pages_of (geometry_of f)) (own_blocks c.args.seat.now)) same t.2 in
    clearing_none f c.args.seat.now c.in-Draining.victim (subst (Sweeps f c.args.seat.now) same t.1) c.requires.cleared c.requires.source room

pub loop-page-preserved : goal.loop-page-preserved
loop-page-preserved g c =
    let f = c.args.flash.now in
    let h = c.loop-page.invariant in
    let told = c.clear_page.ensures in
    let more =
    λ (sum : c.if-clear_page.copied ≡ c.loop-page.copied + count_if c.clear_page.result).
    clearing_more f (broom_view c.args.seat.now) (own_blocks c.args.seat.now) c.in-Draining.victim c.loop-page.page c.loop-page.copied
    c.if-clear_page.copied c.clear_page.result c.loop-page.seat c.clear_page.new.seat h (told.sweeps c.in-Draining.victim h.sweeps) told.page sum in
    elim c.if-clear_page.branch [
      | then-clear_page w ↦ more (let one : count_if c.clear_page.result ≡ 1 = ap count_if w.if-clear_page.true in let e = w.copied-is in omega arith)
      | else-clear_page w ↦ more (let none : count_if c.clear_page.result ≡ 0 = ap count_if w.if-clear_page.false in let e = w.copied-is in omega arith)
    ]

pub returns-clause-emptied : goal.returns-clause-emptied
returns-clause-emptied g c x h =
    let f = c.args.flash.now in
    let v = c.in-Draining.victim in
    let same = is_victim g (goal.at.returns-clause-emptied g c).In-Draining x h in
    let most = c.loop-page.auto.page-end in
    let least = c.loop-page-test.false in
    let all : c.loop-page.page ≡ v.written = omega arith in
    let P : ℕ → Type 0 = λ k. HasEmptied (pages_of (geometry_of f)) (record v { written = k }) c.args.seat.now c.loop-page.copied c.loop-page.seat in
    let whole : P v.written = subst P all (c.loop-page.invariant.emptied, c.loop-page.invariant.ceded) in
    subst (λ y. HasEmptied (pages_of (geometry_of f)) y c.args.seat.now c.loop-page.copied c.loop-page.seat) (sym same) whole
