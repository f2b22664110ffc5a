use Rattle.std.proofs.Common.{◌≡◌, refl, ap, ◌∙◌, rules}
use Rattle.geometry.specs.declared.words.Phase.TheVariants.{Closed, Victim}
use Rattle.flash_rule.specs.{declared.view.View.View, Views.with_owned, BroomPlays.owned_as}
use Rattle.flash_table.specs.declared.broom_seat.{BroomBlocks.BroomBlocks, ReclaimedBlock.ReclaimedBlock}
use Rattle.flash_table.specs.Flash.{broom_view, own_blocks}
use Rattle.flash_table.proofs.BroomResults.{loaded_changed}
use Rattle.broom.specs.Ready.{IsRested}
use Rattle.broom.proofs.DeadBlocks.{blocks_back, drained_dead, load_listed, rested_as, rested_drained}
use Rattle.broom.proofs.Unmarking.{ready_unmarked}
use Rattle.broom.proofs.dead.drain_inspected.{Given.Over, Goals.Else-not-inspect}
use Rattle.broom.proofs.dead.drain_inspected.Goals as goal

-- the block isn't closed
pub returns-then-ne-clause-ready : goal.returns-then-ne-clause-ready
returns-then-ne-clause-ready g c =
    let f = c.args.flash.now in
    let r = c.args.broom.now in
    let load = c.load_state-state.ensures in
    let is = loaded_changed _ _ _ _ load.loaded in
    ready_unmarked f r _ c.args.block _ c.requires.ready c.requires.block
    (rested_as f r.seat c.load_state-state.new.broom _ c.requires.ready.rested load.broom load.blocks is refl c.requires.ready.rested.callers)
    refl refl (load_listed _ _ _ _ c.load_state-state.ensures.loaded)

-- a sector has a page in it
pub returns-then-not-inspect-clause-ready : goal.returns-then-not-inspect-clause-ready
returns-then-not-inspect-clause-ready g c =
    let f = c.args.flash.now in
    let r = c.args.broom.now in
    let load = c.load_state-state.ensures in
    let is = loaded_changed _ _ _ _ load.loaded in
    let first = rested_as f r.seat c.load_state-state.new.broom _ c.requires.ready.rested load.broom load.blocks is refl c.requires.ready.rested.callers in
    let inspected = c.if-not-inspect.ensures in
    ready_unmarked f r _ c.args.block _ c.requires.ready c.requires.block
    (rested_as f c.load_state-state.new.broom c.inspect.new.seat _ first inspected.seat inspected.blocks inspected.looked.changed refl first.callers)
    refl refl (ap (λ (v : View). v.loaded) inspected.looked.changed ∙ load_listed _ _ _ _ c.load_state-state.ensures.loaded)

-- the block was inspected
inspected : (g : Over) (c : Else-not-inspect g) → IsRested c.args.flash.now c.inspect.new.seat
inspected g c =
    let f = c.args.flash.now in
    let r = c.args.broom.now in
    let load = c.load_state-state.ensures in
    let is = loaded_changed _ _ _ _ load.loaded in
    let first = rested_as f r.seat c.load_state-state.new.broom _ c.requires.ready.rested load.broom load.blocks is refl c.requires.ready.rested.callers in
    let told = c.if-not-inspect.ensures in
    rested_as f c.load_state-state.new.broom c.inspect.new.seat _ first told.seat told.blocks told.looked.changed refl first.callers

pub returns-then-not-claim-clause-ready : goal.returns-then-not-claim-clause-ready
returns-then-not-claim-clause-ready g c =
    let f = c.args.flash.now in
    let second = inspected g (goal.at.returns-then-not-claim-clause-ready g c).Else-not-inspect in
    let told = c.if-not-inspect.ensures.looked in
    let lost = c.if-not-claim.ensures in
    ready_unmarked f c.args.broom.now _ c.args.block _ c.requires.ready c.requires.block
    (rested_as f c.inspect.new.seat c.claim.new.broom _ second lost.broom lost.blocks lost.claimed refl second.callers) refl refl
    (ap (λ (v : View). v.loaded) lost.claimed ∙ (ap (λ (v : View). v.loaded) told.changed ∙ load_listed _ _ _ _ c.load_state-state.ensures.loaded))

-- and drained
pub returns-clause-inspected : goal.returns-clause-inspected
returns-clause-inspected g c =
    let r = c.args.broom.now in
    let p = c.load_state-state.result in
    let o : ReclaimedBlock = record { block = c.args.block; generation = p.generation; written = p.written } in
    let closed : p.phase ≡ Closed = search rules in
    let won = c.if-not-claim.ensures in
    let back = blocks_back (own_blocks c.inspect.new.seat) (own_blocks c.claim.new.broom) (own_blocks c.drain.new.broom) o
    (inspected g (goal.at.returns-clause-inspected g c).Else-not-inspect).reclaiming won.blocks c.drain.ensures.blocks in (
      refl,
      refl,
      drained_dead (broom_view r.seat) (broom_view c.load_state-state.new.broom) (broom_view c.inspect.new.seat) (broom_view c.claim.new.broom)
          (broom_view c.drain.new.broom) c.args.block p c.load_state-state.ensures.fits closed c.load_state-state.ensures.loaded
          c.if-not-inspect.ensures.looked won.claimed (c.drain.ensures.drained o (ap (λ (x : BroomBlocks). x.reclaiming) won.blocks)),
      back ∙ (c.if-not-inspect.ensures.blocks ∙ c.load_state-state.ensures.blocks),
    )

pub returns-clause-ready : goal.returns-clause-ready
returns-clause-ready g c =
    let f = c.args.flash.now in
    let p = c.load_state-state.result in
    let o : ReclaimedBlock = record { block = c.args.block; generation = p.generation; written = p.written } in
    let second = inspected g (goal.at.returns-clause-ready g c).Else-not-inspect in
    let won = c.if-not-claim.ensures in
    let drained = c.drain.ensures.drained o (ap (λ (x : BroomBlocks). x.reclaiming) won.blocks) in
    let back = blocks_back (own_blocks c.inspect.new.seat) (own_blocks c.claim.new.broom) (own_blocks c.drain.new.broom) o second.reclaiming won.blocks
    c.drain.ensures.blocks in
    ready_unmarked f c.args.broom.now _ c.args.block _ c.requires.ready c.requires.block
    (rested_drained f c.inspect.new.seat c.claim.new.broom c.drain.new.broom o
    (with_owned (owned_as c.args.block p Victim) (broom_view c.inspect.new.seat).owns) second c.drain.ensures.broom back won.claimed drained)
    refl refl
    (ap (λ (v : View). v.loaded) drained ∙ (ap (λ (v : View). v.loaded) won.claimed ∙ (ap (λ (v : View). v.loaded) c.if-not-inspect.ensures.looked.changed
    ∙ load_listed _ _ _ _ c.load_state-state.ensures.loaded)))
