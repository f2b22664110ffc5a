use Rattle.std.proofs.Common.{rules, ◌≡◌, ℕ, Bool, true, false, [], ◌∷◌, ◌++◌, MatchBool, refl, sym, ap, ◌∙◌, arith}
use Rattle.flash_rule.specs.declared.view.View.{View}
use Rattle.flash_table.specs.declared.broom_seat.{BroomBlocks.BroomBlocks, Reclaiming.TheVariants.Nothing}
use Rattle.geometry.specs.{Words.pin_word, Limits.Numbers, Geometry.endurance_of, declared.words.Phase.TheVariants.Drained}
use Rattle.flash_table.specs.Flash.{broom_view, own_blocks, geometry_of}
use Rattle.broom.specs.Erasing.{DidKeep, DidFree}
use Rattle.broom.proofs.Renewing.{loaded_stale, loaded_busy, loaded_changed, rested_loaded, WasWiped, was_wiped, its, did_retire, did_renew, told_erased}
use Rattle.broom.proofs.Renewing.{rested_retired, rested_renewed}
use Rattle.broom.proofs.{Unmarking.ready_unmarked, erasing.erase.Given.Over, erasing.erase.Goals.After-wipe_all}
use Rattle.broom.proofs.erasing.erase.Goals as goal

-- every word of the block was wiped
wiped : (g : Over) (c : After-wipe_all g) → WasWiped c.args.broom.now.seat c.args.block c.load_state-state.result c.wipe_all.new.seat
wiped g c =
    let drained : c.load_state-state.result.phase ≡ Drained = search rules in
    let loaded : own_blocks c.load_state-state.new.broom ≡ own_blocks c.args.broom.now.seat = cc in
    let wiped : own_blocks c.wipe_all.new.seat ≡ own_blocks c.condemn.new.broom = cc in
    was_wiped c.args.flash.now c.args.broom.now.seat c.load_state-state.new.broom c.condemn.new.broom c.wipe_all.new.seat c.args.block
    c.load_state-state.result c.requires.broom.rested c.load_state-state.ensures.fits
    drained (omega arith) c.load_state-state.ensures.loaded loaded c.if-not-condemn.ensures.condemned c.wipe_all.ensures.wiped wiped

-- the endurance, as the device and as the broom's view have it
endures : (g : Over) (c : After-wipe_all g) (n : ℕ) → n ≡ endurance_of (geometry_of c.args.flash.now) → n ≡ (broom_view c.args.broom.now.seat).numbers.endurance
endures g c n is = is ∙ ap (λ (z : Numbers). z.endurance) (sym c.requires.broom.rested.seat.numbers)

-- the block isn't drained
pub returns-then-ne-clause-erased : goal.returns-then-ne-clause-erased
returns-then-ne-clause-erased g c =
    let s = c.args.broom.now.seat in
    let p = c.load_state-state.result in
    let load = c.load_state-state.ensures in
    let other : ¬ (p.phase ≡ Drained) = search rules in
    let is = loaded_stale (broom_view s) (broom_view c.load_state-state.new.broom) c.args.block p load.fits other load.loaded in
    (record { state = p; fits = load.fits; undrained = other; changed = is }, load.blocks)

pub returns-then-ne-clause-ready : goal.returns-then-ne-clause-ready
returns-then-ne-clause-ready g c =
    let load = c.load_state-state.ensures in
    let is = (returns-then-ne-clause-erased g c).0.changed in
    ready_unmarked c.args.flash.now c.args.broom.now _ c.args.block _ c.requires.broom c.requires.block
    (rested_loaded c.args.flash.now c.args.broom.now.seat c.load_state-state.new.broom c.requires.broom.rested load.broom load.blocks _ _ _ is)
    refl refl (ap (λ (v : View). v.loaded) is)

-- it has readers
pub returns-then-state-gt0-clause-erased : goal.returns-then-state-gt0-clause-erased
returns-then-state-gt0-clause-erased g c =
    let s = c.args.broom.now.seat in
    let p = c.load_state-state.result in
    let load = c.load_state-state.ensures in
    let drained : p.phase ≡ Drained = search rules in
    let is = loaded_busy (broom_view s) (broom_view c.load_state-state.new.broom) c.args.block p load.fits drained (omega arith) load.loaded in
    (record { state = p; fits = load.fits; drained = drained; changed = is }, load.blocks)

pub returns-then-state-gt0-clause-ready : goal.returns-then-state-gt0-clause-ready
returns-then-state-gt0-clause-ready g c =
    let load = c.load_state-state.ensures in
    let is = (returns-then-state-gt0-clause-erased g c).0.changed in
    ready_unmarked c.args.flash.now c.args.broom.now _ c.args.block _ c.requires.broom c.requires.block
    (rested_loaded c.args.flash.now c.args.broom.now.seat c.load_state-state.new.broom c.requires.broom.rested load.broom load.blocks _ _ _ is)
    refl refl (ap (λ (v : View). v.loaded) is)

-- its word has changed
pub returns-then-not-condemn-clause-erased : goal.returns-then-not-condemn-clause-erased
returns-then-not-condemn-clause-erased g c =
    let s = c.args.broom.now.seat in
    let p = c.load_state-state.result in
    let load = c.load_state-state.ensures in
    let drained : p.phase ≡ Drained = search rules in
    let busy = c.if-not-condemn.ensures.condemned in
    let is = loaded_changed (broom_view s) (broom_view c.load_state-state.new.broom) (broom_view c.condemn.new.broom) c.args.block p load.fits drained
    (omega arith) load.loaded busy.changed in
    (record { state = p; fits = load.fits; drained = drained; changed = is }, (busy.blocks ∙ load.blocks))

pub returns-then-not-condemn-clause-ready : goal.returns-then-not-condemn-clause-ready
returns-then-not-condemn-clause-ready g c =
    let blocks = c.if-not-condemn.ensures.condemned.blocks ∙ c.load_state-state.ensures.blocks in
    let is = (returns-then-not-condemn-clause-erased g c).0.changed in
    ready_unmarked c.args.flash.now c.args.broom.now _ c.args.block _ c.requires.broom c.requires.block
    (rested_loaded c.args.flash.now c.args.broom.now.seat c.condemn.new.broom c.requires.broom.rested c.condemn.ensures.broom blocks _ _ _ is)
    refl refl (ap (λ (v : View). v.loaded) is)

pub returns-then-state-endurance-clause-erased : goal.returns-then-state-endurance-clause-erased
returns-then-state-endurance-clause-erased g c =
    let at = (goal.at.returns-then-state-endurance-clause-erased g c).After-wipe_all in
    let s = c.args.broom.now.seat in
    let p = c.load_state-state.result in
    let last = endures g at c.endurance.result (c.endurance.ensures.value ∙ ap endurance_of c.geometry.ensures) in
    let given_up : own_blocks c.retire_block.new.broom ≡ record (own_blocks c.wipe_all.new.seat) { reclaiming = Nothing } = cc in (
      refl,
      did_retire s c.wipe_all.new.seat c.retire_block.new.broom c.args.block p (wiped g at) (c.if-state-endurance.true ∙ last)
          (c.retire_block.ensures.retired _ (its s c.wipe_all.new.seat c.args.block p (wiped g at))) given_up,
    )

pub returns-then-state-endurance-clause-ready : goal.returns-then-state-endurance-clause-ready
returns-then-state-endurance-clause-ready g c =
    let did = (returns-then-state-endurance-clause-erased g c).1 in
    ready_unmarked c.args.flash.now c.args.broom.now _ c.args.block _ c.requires.broom c.requires.block
    (rested_retired c.args.flash.now c.args.broom.now.seat c.retire_block.new.broom c.args.block c.requires.broom.rested c.retire_block.ensures.broom did)
    refl refl (ap (λ (v : View). v.loaded) did.erased.changed)

-- the block begins its next generation
renewed : (g : Over) (c : goal.After-renew-kept g) → MatchBool c.renew-kept.result
    (DidKeep (broom_view c.args.broom.now.seat) (own_blocks c.args.broom.now.seat) c.args.block (broom_view c.renew-kept.new.seat)
    (own_blocks c.renew-kept.new.seat))
    (DidFree (broom_view c.args.broom.now.seat) (own_blocks c.args.broom.now.seat) c.args.block (broom_view c.renew-kept.new.seat)
    (own_blocks c.renew-kept.new.seat))
renewed g c =
    let at = (goal.at.returns-clause-erased g c).After-wipe_all in
    let s = c.args.broom.now.seat in
    let p = c.load_state-state.result in
    let is : c.endurance.result ≡ endurance_of (geometry_of c.args.flash.now) = c.endurance.ensures.value ∙ ap endurance_of c.geometry.ensures in
    let same : c.endurance.result ≡ (broom_view s).numbers.endurance = endures g at c.endurance.result is in
    let young = c.load_state-state.ensures.ranges.0 in
    did_renew s c.wipe_all.new.seat c.renew-kept.new.seat c.args.block p (wiped g at) c.renew-kept.result (omega arith)
    (c.renew-kept.ensures.renewed _ (its s c.wipe_all.new.seat c.args.block p (wiped g at)))

renewed_loaded : (v : View) (x : BroomBlocks) (b : ℕ) (w : View) (y : BroomBlocks) (kept : Bool)
    → MatchBool kept (DidKeep v x b w y) (DidFree v x b w y) → (n : ℕ) × (w.loaded ≡ v.loaded ++ (b, n) ∷ [])
renewed_loaded v x b w y true h = (pin_word h.state, ap (λ (z : View). z.loaded) h.erased.changed)
renewed_loaded v x b w y false h = (pin_word h.state, ap (λ (z : View). z.loaded) h.erased.changed)

pub returns-clause-erased : goal.returns-clause-erased
returns-clause-erased g c = told_erased c.args.broom.now _ c.args.block c.renew-kept.result (renewed g c)

pub returns-clause-ready : goal.returns-clause-ready
returns-clause-ready g c =
    ready_unmarked c.args.flash.now c.args.broom.now _ c.args.block _ c.requires.broom c.requires.block
    (rested_renewed c.args.flash.now c.args.broom.now.seat c.renew-kept.new.seat c.args.block c.requires.broom.rested c.renew-kept.ensures.seat
    c.renew-kept.result c.requires.block (renewed g c))
    refl refl (renewed_loaded _ _ c.args.block _ _ c.renew-kept.result (renewed g c)).1
