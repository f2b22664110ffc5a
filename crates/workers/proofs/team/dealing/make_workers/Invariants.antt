use Rattle.std.proofs.Common.{◌≡◌, ◌+◌, ◌≤◌, ◌++◌, All, length, map, vec_len, vec_capacity}
use Rattle.flash_table.specs.Flash.{geometry_of}
use Rattle.host.specs.Ready.{IsReady}
use Rattle.volume.specs.Volume.{flash_of}
use Rattle.workers.specs.{Meetings.IsAt, Meetings.passes_of, Dealing.HasFitShare, Dealing.HasPlayedNone, Dealing.IsOwner, Dealing.work_in, Dealing.work_of}
use Rattle.workers.proofs.team.dealing.make_workers.Given as goal

abbrev pub invariant-loop-pass : goal.invariant-loop-pass
invariant-loop-pass l = record {
  passes : passes_of l.workers.items ++ l.passes.items ≡ l.fn.passes.items;
  work : map work_of l.workers.items ++ map work_in l.shares.items ≡ map work_in l.fn.shares.items;
  at : All (IsAt l.volume) l.workers.items;
  none : All HasPlayedNone l.workers.items;
  ready : All (IsReady (flash_of l.volume)) l.passes.items;
  fit : All (HasFitShare (geometry_of (flash_of l.volume))) l.shares.items;
  owners : All (IsOwner l.volume) l.owners.items;
  shares_count : length l.shares.items ≡ length l.passes.items;
  owners_count : length l.owners.items ≡ length l.passes.items;
  room : vec_len l.workers + length l.passes.items ≤ vec_capacity l.workers;
}

abbrev pub decreases-loop-pass : goal.decreases-loop-pass
decreases-loop-pass l = length l.passes.items
