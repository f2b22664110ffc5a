use Rattle.std.proofs.Common.{◌≡◌, Some}
use Rattle.flash_table.specs.{Flash.view_of, Flash.opened_of, declared.pass.OpenBlock.OpenBlock}
use Rattle.host.proofs.WritingSteps.{Filling}
use Rattle.host.proofs.writing.fill.Given as goal

-- the words so far stand in the open block's next page
abbrev pub invariant-loop-i : goal.invariant-loop-i
invariant-loop-i l = (o : OpenBlock) → opened_of l.fn.pass ≡ Some o → Filling l.flash (view_of l.fn.pass) o l.bytes l.i l.pass
