use Rattle.flash_table.specs.Flash.{broom_view, own_blocks}
use Rattle.broom.proofs.Loading.{LoadedTo}
use Rattle.broom.proofs.survey.load_states.Given as goal

abbrev pub invariant-loop-block : goal.invariant-loop-block
invariant-loop-block l = LoadedTo l.flash (broom_view l.fn.seat) (own_blocks l.fn.seat) l.block l.seat l.states l.closed
