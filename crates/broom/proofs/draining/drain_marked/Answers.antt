use Rattle.std.proofs.Common.{◌≡◌, inl, refl, ap, arith}
use Rattle.flash_rule.specs.{declared.view.View.View, BroomPlays.owned_as, Views.without, Views.with_owned}
use Rattle.geometry.specs.declared.words.Phase.TheVariants.{Victim}
use Rattle.flash_table.specs.Flash.{IsBroomOf, broom_view, own_blocks}
use Rattle.broom.specs.{Ready.IsRested, Ready.view_of_broom, Relocating.Sweeps, Told.DidDrainAgain}
use Rattle.broom.proofs.{Unmarking.ready_unseen, Choosing.rested_lost}
use Rattle.broom.proofs.Drains.{low_mark, last_loaded, victim_of_state, claimed_sweeps, drained_so}
use Rattle.broom.proofs.draining.drain_marked.{Given.Over, Goals.Else-not-claim, Goals.After-relocate-copied}
use Rattle.broom.proofs.draining.drain_marked.Goals.{After-drain}
use Rattle.broom.proofs.draining.drain_marked.Goals as goal

pub claim-requires-clause-loaded : goal.claim-requires-clause-loaded
claim-requires-clause-loaded g c =
    last_loaded c.args.flash.now c.args.broom.now c.args.block c.requires.ready c.requires.marked c.index-state.result.now c.index-state.ensures

-- the claim was won: the broom sweeps its victim
sweeping : (g : Over) (c : Else-not-claim g)
    → Sweeps c.args.flash.now c.claim.new.broom
    (victim_of_state c.args.flash.now c.args.broom.now c.args.block c.requires.ready c.requires.marked c.index-state.result.now c.index-state.ensures)
sweeping g c =
    claimed_sweeps c.args.flash.now c.args.broom.now c.args.block c.requires.ready c.requires.marked c.index-state.result.now c.index-state.ensures
    c.claim.new.broom c.claim.ensures.broom
    (with_owned (owned_as c.args.block c.index-state.result.now Victim) (view_of_broom c.args.broom.now).owns) c.if-not-claim.ensures.claimed
    c.if-not-claim.ensures.blocks

-- and still sweeps it when all its pages are cleared
swept : (g : Over) (c : After-relocate-copied g)
    → Sweeps c.args.flash.now c.relocate-copied.new.seat
    (victim_of_state c.args.flash.now c.args.broom.now c.args.block c.requires.ready c.requires.marked c.index-state.result.now c.index-state.ensures)
swept g c =
    c.relocate-copied.ensures.sweeps
    (victim_of_state c.args.flash.now c.args.broom.now c.args.block c.requires.ready c.requires.marked c.index-state.result.now
    c.index-state.ensures) (sweeping g ((goal.at.After-relocate-copied g c).Else-not-claim))

pub drain-requires-clause-broom : goal.drain-requires-clause-broom
drain-requires-clause-broom g c = (swept g (goal.at.drain-requires-clause-broom g c).After-relocate-copied).seat

pub drain-requires-clause-emptied : goal.drain-requires-clause-emptied
drain-requires-clause-emptied g c =
    let at = (goal.at.drain-requires-clause-emptied g c).After-relocate-copied in
    let x = victim_of_state c.args.flash.now c.args.broom.now c.args.block c.requires.ready c.requires.marked c.index-state.result.now c.index-state.ensures in
    let h = swept g at in
    let all = c.relocate-copied.ensures.cleared x (sweeping g (goal.at.After-relocate-copied g at).Else-not-claim) in inl (x, h.draining, (h.low, omega arith))

-- what the broom has done then
ended : (g : Over) (c : After-drain g)
    → DidDrainAgain (view_of_broom c.args.broom.now) (own_blocks c.args.broom.now.seat) c.args.broom.now.states.items c.args.block
    c.relocate-copied.result (broom_view c.drain.new.broom) (own_blocks c.drain.new.broom)
    × ((broom_view c.drain.new.broom).loaded ≡ (view_of_broom c.args.broom.now).loaded)
    × (IsBroomOf c.args.flash.now c.drain.new.broom → IsRested c.args.flash.now c.drain.new.broom)
ended g c =
    let f = c.args.flash.now in
    let r = c.args.broom.now in
    let q = c.index-state.result.now in
    let at = (goal.at.After-drain g c).After-relocate-copied in
    let x = victim_of_state f r c.args.block c.requires.ready c.requires.marked q c.index-state.ensures in
    let h = swept g at in
    let told = c.relocate-copied.ensures in
    let began = sweeping g (goal.at.After-relocate-copied g at).Else-not-claim in
    drained_so f r c.args.block c.requires.ready c.requires.marked q c.index-state.ensures c.claim.new.broom c.claim.ensures.broom
    (with_owned (owned_as c.args.block q Victim) (view_of_broom r).owns) c.if-not-claim.ensures.claimed c.if-not-claim.ensures.blocks
    c.relocate-copied.new.seat c.drain.new.broom c.relocate-copied.result told.relocated told.source h
    (without c.args.block (broom_view c.relocate-copied.new.seat).owns) (c.drain.ensures.drained x h.draining) c.drain.ensures.blocks
    c.requires.ready.rested.source (told.cleared x began) (told.emptied x began)

pub returns-clause-drained_marked : goal.returns-clause-drained_marked
returns-clause-drained_marked g c = (refl, (ended g (goal.at.returns-clause-drained_marked g c).After-drain).0)

pub returns-clause-ready : goal.returns-clause-ready
returns-clause-ready g c =
    let f = c.args.flash.now in
    let r = c.args.broom.now in
    let done = ended g (goal.at.returns-clause-ready g c).After-drain in
    ready_unseen f r _ c.args.block c.requires.ready (low_mark f r c.args.block c.requires.ready c.requires.marked)
    (done.2 c.drain.ensures.broom) refl refl done.1

pub returns-then-not-claim-clause-ready : goal.returns-then-not-claim-clause-ready
returns-then-not-claim-clause-ready g c =
    let f = c.args.flash.now in
    let r = c.args.broom.now in
    let lost = c.if-not-claim.ensures in
    ready_unseen f r _ c.args.block c.requires.ready (low_mark f r c.args.block c.requires.ready c.requires.marked)
    (rested_lost f r.seat c.claim.new.broom c.args.block c.requires.ready.rested lost.broom lost.blocks lost.claimed) refl refl
    (ap (λ (v : View). v.loaded) lost.claimed)
