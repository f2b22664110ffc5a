use Rattle.std.proofs.Common.{◌≡◌}
use Rattle.version_map.specs.History.{cleared_after}
use Rattle.version_map.specs.Map.{history_published, IsPublisherOf}
use Rattle.version_map.proofs.map.VersionMap.clear.Given as goal

abbrev pub invariant-loop-i : goal.invariant-loop-i
invariant-loop-i l = IsPublisherOf l.self l.publisher × (history_published l.publisher ≡ cleared_after (history_published l.initial.publisher) l.first l.i)
