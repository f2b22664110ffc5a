use Rattle.flash_table.specs.Flash.{broom_view, own_blocks}
use Rattle.broom.proofs.Counting.{CountedTo}
use Rattle.broom.proofs.survey.count_pages.Given as goal

abbrev pub invariant-loop-sector : goal.invariant-loop-sector
invariant-loop-sector l = CountedTo l.flash (broom_view l.fn.seat) (own_blocks l.fn.seat) l.states l.sector l.seat l.counts
