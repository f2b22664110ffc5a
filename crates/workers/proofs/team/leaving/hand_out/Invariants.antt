use Rattle.std.proofs.Common.{◌≡◌, ◌+◌, ◌≤◌, ◌++◌, length, map, vec_len, vec_capacity}
use Rattle.workers.specs.Workers.{answers_kept}
use Rattle.workers.proofs.team.leaving.hand_out.Given as goal

abbrev pub invariant-loop-worker : goal.invariant-loop-worker
invariant-loop-worker l = (l.rows.items ++ map answers_kept l.workers.items ≡ map answers_kept l.fn.workers.items)
    × (vec_len l.rows + length l.workers.items ≤ vec_capacity l.rows)

abbrev pub decreases-loop-worker : goal.decreases-loop-worker
decreases-loop-worker l = length l.workers.items
