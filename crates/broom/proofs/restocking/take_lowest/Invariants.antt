use Rattle.flash_table.specs.Flash.{broom_view, own_blocks}
use Rattle.broom.proofs.Sparing.{Tried}
use Rattle.broom.proofs.restocking.take_lowest.Given as goal

abbrev pub invariant-loop-block : goal.invariant-loop-block
invariant-loop-block l = Tried l.flash (broom_view l.fn.seat) (own_blocks l.fn.seat) l.block l.seat
