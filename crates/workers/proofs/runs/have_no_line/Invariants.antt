use Rattle.std.proofs.Common.{ℕ, ◌<◌, length, get_or}
use Rattle.workers.specs.{declared.worker.Worker.Worker, Workers.IsIdle}
use Rattle.workers.proofs.runs.have_no_line.Given as goal

abbrev pub invariant-loop-worker : goal.invariant-loop-worker
invariant-loop-worker l = (k : ℕ) (d : Worker) → k < l.worker-index → k < length l.workers → IsIdle l.end (get_or l.workers k d)
