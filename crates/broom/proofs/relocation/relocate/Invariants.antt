use Rattle.flash_table.specs.Flash.{broom_view, own_blocks}
use Rattle.broom.proofs.Clearing.{Clearing}
use Rattle.broom.proofs.relocation.relocate.Given as goal

abbrev pub invariant-loop-page : goal.invariant-loop-page
invariant-loop-page g l = Clearing l.flash (broom_view l.fn.seat) (own_blocks l.fn.seat) l.victim l.page l.copied l.seat
