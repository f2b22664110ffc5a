use Rattle.std.specs.Prelude.{◌≤◌, length}
use Rattle.workers.specs.Playable.{lines_at}
use Rattle.workers.proofs.AddedAnswers.{Adding}
use Rattle.workers.proofs.worker.plays.play_at.Given as goal

abbrev pub invariant-loop-i : goal.invariant-loop-i
invariant-loop-i g l = Adding l.volume l.patience l.fn.pass (lines_at l.commands l.places) l.fn.answers l.i l.pass l.answers × (l.i ≤ length l.places)
