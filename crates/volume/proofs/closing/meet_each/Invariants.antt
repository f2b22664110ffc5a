use Rattle.volume.proofs.Looks.{Meets}
use Rattle.volume.proofs.closing.meet_each.Given as goal

abbrev pub invariant-loop-other : goal.invariant-loop-other
invariant-loop-other l = Meets l.flash l.fn.first l.fn.others l.other-index l.first l.others
