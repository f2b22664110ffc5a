use Rattle.flash_table.specs.Flash.{broom_view, own_blocks}
use Rattle.broom.proofs.DeadBlocks.{InspectedTo}
use Rattle.broom.proofs.dead.inspect.Given as goal

abbrev pub invariant-loop-sector : goal.invariant-loop-sector
invariant-loop-sector l = InspectedTo l.flash (broom_view l.fn.seat) (own_blocks l.fn.seat) l.block l.state.generation l.sector l.seat
