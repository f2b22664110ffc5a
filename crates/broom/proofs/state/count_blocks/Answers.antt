use Rattle.std.proofs.Common.{◌≡◌, ◌∙◌, ◌+◌, sym, ap, subst, arith}
use Rattle.geometry.specs.Geometry.{blocks_of}
use Rattle.flash_table.specs.Flash.{geometry_of, device}
use Rattle.broom.specs.Loading.{FitsOneMore}
use Rattle.broom.proofs.StateCounts.{LoadedBelow, has_room, loaded_below_none, loaded_below_more}
use Rattle.broom.proofs.state.count_blocks.Goals as goal

pub loop-block-init : goal.loop-block-init
loop-block-init c = loaded_below_none c.args.flash.now c.args.broom.now c.requires _ c.none-counts.ensures

pub add-requires : goal.add-requires
add-requires c =
    let f = c.args.flash.now in
    let h = c.loop-block.invariant in
    let blocks : c.blocks-block-end.result ≡ blocks_of (geometry_of f) = c.blocks-block-end.ensures.value ∙ ap blocks_of c.geometry.ensures in
    let most = f.geometry.in_limits.blocks_high in
    let low = c.loop-block-test.true in
    let long = h.long in
    subst (FitsOneMore c.load_state-state.result) (sym h.counted)
    (has_room (device f) h.loaded c.load_state-state.result f.geometry.in_limits.endurance_high (omega arith) h.ranges c.load_state-state.ensures.range)

pub loop-block-preserved : goal.loop-block-preserved
loop-block-preserved c =
    let f = c.args.flash.now in
    let blocks : c.blocks-block-end.result ≡ blocks_of (geometry_of f) = c.blocks-block-end.ensures.value ∙ ap blocks_of c.geometry.ensures in
    let low = c.loop-block-test.true in
    let load = c.load_state-state.ensures in
    subst (LoadedBelow f c.args.broom.now (c.loop-block.block + 1) c.load_state-state.new.broom) (sym c.add.ensures)
    (loaded_below_more f c.args.broom.now c.loop-block.block c.loop-block.broom c.load_state-state.new.broom c.loop-block.counts
    c.load_state-state.result (omega arith) c.loop-block.invariant load.loaded load.range load.ready load.queue)
