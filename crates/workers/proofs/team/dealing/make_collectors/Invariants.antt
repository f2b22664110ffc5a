use Rattle.std.proofs.Common.{◌≡◌, ◌+◌, ◌≤◌, ◌++◌, All, length, map, vec_len, vec_capacity}
use Rattle.volume.specs.Volume.{IsBroomReady}
use Rattle.workers.specs.{Served.HasCountedNone, Served.broom_of, Dealing.IsOwner}
use Rattle.workers.proofs.team.dealing.make_collectors.Given as goal

abbrev pub invariant-loop-broom : goal.invariant-loop-broom
invariant-loop-broom l = record {
  brooms : map broom_of l.collectors.items ++ l.brooms.items ≡ l.fn.brooms.items;
  none : All (HasCountedNone l.volume l.drains) l.collectors.items;
  ready : All (IsBroomReady l.volume) l.brooms.items;
  owners : All (IsOwner l.volume) l.owners.items;
  count : length l.owners.items ≡ length l.brooms.items;
  made : vec_len l.collectors + length l.brooms.items ≡ length l.fn.brooms.items;
  room : vec_len l.collectors + length l.brooms.items ≤ vec_capacity l.collectors;
}

abbrev pub decreases-loop-broom : goal.decreases-loop-broom
decreases-loop-broom l = length l.brooms.items
