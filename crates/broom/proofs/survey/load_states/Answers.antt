use Rattle.std.proofs.Common.{◌≡◌, ◌+◌, Bool, set, sym, ap, ◌∙◌, subst, arith}
use Rattle.geometry.specs.Geometry.{blocks_of}
use Rattle.flash_table.specs.Flash.{broom_view, own_blocks, geometry_of}
use Rattle.broom.proofs.Loading.{LoadedTo, loaded_more}
use Rattle.broom.proofs.survey.load_states.Goals as goal

pub loop-block-preserved : goal.loop-block-preserved
loop-block-preserved c =
    let f = c.args.flash.now in
    let v = broom_view c.args.seat.now in
    let blocks : c.blocks-block-end.result ≡ blocks_of (geometry_of f) = c.blocks-block-end.ensures.value ∙ ap blocks_of c.geometry.ensures in
    let low = c.loop-block-test.true in
    let states = c.requires.states in
    let closed = c.requires.closed in
    let state = c.load_state-state.result in
    let told = c.load_state-state.ensures in
    let more =
    loaded_more f v (own_blocks c.args.seat.now) c.loop-block.block c.loop-block.seat c.load_state-state.new.broom c.loop-block.states
    c.loop-block.closed state c.loop-block.invariant (omega arith) (omega arith) told.broom told.blocks
    (record { fits = told.fits; young = told.ranges.0; within = told.ranges.1 }) told.loaded in
    let P : Bool → Type 0 = λ mark. LoadedTo f v (own_blocks c.args.seat.now) (c.loop-block.block + 1) c.load_state-state.new.broom
    (set c.loop-block.states c.loop-block.block state) (set c.loop-block.closed c.loop-block.block mark) in
    subst P (sym c.is_closed.ensures) more
