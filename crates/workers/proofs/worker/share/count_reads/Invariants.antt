use Rattle.std.proofs.Common.{◌≡◌, ◌*◌, ◌≤◌, ℕ, take}
use Rattle.rounds.specs.Answers.{space_of}
use Rattle.workers.specs.Playable.{lines_at}
use Rattle.workers.proofs.worker.share.count_reads.Given as goal

abbrev pub invariant-loop-place : goal.invariant-loop-place
invariant-loop-place l = ((n : ℕ) → space_of n (lines_at l.commands (take l.place-index l.places)) ≡ n * l.reads) × (l.reads ≤ l.place-index)
