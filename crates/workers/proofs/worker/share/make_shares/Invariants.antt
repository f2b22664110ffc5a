use Rattle.std.proofs.Common.{◌≡◌, ◌+◌, ◌≤◌, ◌++◌, All, length, map, vec_len, vec_capacity}
use Rattle.std.specs.Arc.{arc_value}
use Rattle.rounds.specs.Plans.{items_of}
use Rattle.workers.specs.Dealing.{AreDoable, HasFitShare, work_in, with_commands}
use Rattle.workers.proofs.worker.share.make_shares.Given as goal

abbrev pub invariant-loop-row : goal.invariant-loop-row
invariant-loop-row l = record {
  work : map work_in l.shares.items ++ map (with_commands (arc_value l.commands)) l.places.items ≡ map (with_commands (arc_value l.commands)) l.fn.places.items;
  fit : All (HasFitShare l.geometry) l.shares.items;
  doable : All (λ row. AreDoable l.geometry (arc_value l.commands) (items_of row)) l.places.items;
  room : vec_len l.shares + length l.places.items ≤ vec_capacity l.shares;
}

abbrev pub decreases-loop-row : goal.decreases-loop-row
decreases-loop-row l = length l.places.items
