use Rattle.std.proofs.Common.{◌≡◌, ◌⊎◌, inl, inr, true, false, refl, sym, ap, ◌∙◌, arith}
use Rattle.geometry.specs.Greedy.{IsClosed}
use Rattle.flash_rule.specs.declared.view.View.{View}
use Rattle.flash_table.specs.Flash.{broom_view, device}
use Rattle.broom.specs.Loading.{HasState}
use Rattle.broom.proofs.{Loading.loaded_changes, Renewing.rested_loaded, Unmarking.ready_unmarked, Unmarking.ready_loaded}
use Rattle.broom.proofs.Marking.{marks_loaded, marks_reloaded, mark_read, same_state}
use Rattle.broom.proofs.state.load_state.Goals.{else-index-via-then-index+else-pack, else-index-via-else-index}
use Rattle.broom.proofs.state.load_state.Goals as goal

pub returns-then-pack-clause-ready : goal.returns-then-pack-clause-ready
returns-then-pack-clause-ready c =
    let load = c.load_state-state.ensures in
    let is = loaded_changes (broom_view c.args.broom.now.seat) (broom_view c.load_state-state.new.broom) c.args.block _ load.loaded in
    ready_unmarked c.args.flash.now c.args.broom.now _ c.args.block _ c.requires.broom c.requires.block
    (rested_loaded c.args.flash.now c.args.broom.now.seat c.load_state-state.new.broom c.requires.broom.rested load.broom load.blocks _ _ _ is)
    refl refl (ap (λ (v : View). v.loaded) is)

-- the broom keeps its survey: the block is marked, and its state is the one that is kept, or the block isn't marked
kept : (c : goal.Joined-else-index) → HasState c.args.broom.now c.args.block c.load_state-state.result
    ⊎ ¬ (IsClosed c.args.broom.now.closed.items c.args.block)
kept c = elim c.else-index.branch [
  | else-index-via-then-index+else-pack w ↦ inl (same_state (device c.args.flash.now) (broom_view c.args.broom.now.seat) c.args.broom.now.states.items
      c.args.broom.now.closed.items c.args.block w.index-then-index.result.now c.load_state-state.result c.requires.broom.marks
      (mark_read c.args.broom.now.closed.items _ c.args.block c.index.result.now c.requires.broom.closed c.requires.block c.index.ensures ∙ w.if-index.true)
      (let long = c.requires.broom.states in let low = c.requires.block in omega arith) w.index-then-index.ensures c.load_state-state.ensures.fits
      (sym w.pack.ensures ∙ (w.if-pack.false ∙ w.pack-then-index.ensures)))
  | else-index-via-else-index w ↦ inr (λ is. let both : false ≡ true = sym (mark_read c.args.broom.now.closed.items _ c.args.block c.index.result.now
      c.requires.broom.closed c.requires.block c.index.ensures ∙ w.if-index.false) ∙ is in absurd (cc))
]

pub returns-else-index-clause-ready : goal.returns-else-index-clause-ready
returns-else-index-clause-ready c =
    let load = c.load_state-state.ensures in
    let v = broom_view c.args.broom.now.seat in
    let w = broom_view c.load_state-state.new.broom in
    let is = loaded_changes v w c.args.block _ load.loaded in
    let more = ap (λ (v : View). v.loaded) is in
    let b = c.args.broom.now in
    ready_loaded c.args.flash.now b _ c.requires.broom
    (rested_loaded c.args.flash.now b.seat c.load_state-state.new.broom c.requires.broom.rested load.broom load.blocks _ _ _ is) refl
    (elim (kept c) [
      | inl here ↦ marks_reloaded (device c.args.flash.now) b.states.items v w b.closed.items c.args.block c.load_state-state.result here more
          c.requires.broom.marks
      | inr other ↦ marks_loaded (device c.args.flash.now) b.states.items v w b.closed.items c.args.block _ more other c.requires.broom.marks
    ])
