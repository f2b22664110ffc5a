use Rattle.flash_table.specs.Flash.{view_of}
use Rattle.host.proofs.WritingSteps.{Tried}
use Rattle.host.proofs.writing.take_lowest.Given as goal

abbrev pub invariant-loop-block : goal.invariant-loop-block
invariant-loop-block l = Tried l.flash (view_of l.fn.pass) l.block l.pass
