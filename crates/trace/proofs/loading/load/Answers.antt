use Rattle.std.proofs.Common.{arith}
use Rattle.trace.proofs.Loads.{too_many}
use Rattle.trace.proofs.loading.load.Goals as goal

pub returns-clause-why : goal.returns-clause-why
returns-clause-why g c =
    rw c.whole-2.ensures (c.loop-piece.invariant.unfailed, too_many _ _ c.loop-piece.text.items c.loop-piece.invariant.taken (omega (arith, c.len.ensures)))
