use Rattle.std.proofs.Common.{◌-◌, ◌≤◌, length}
use Rattle.std.specs.Vec.{vec_capacity}
use Rattle.broom.specs.Survey.{IsRanked}
use Rattle.broom.proofs.ranking.Ranking.first.Given as goal

abbrev pub invariant-loop-self : goal.invariant-loop-self
invariant-loop-self l = record {
  ranked : IsRanked l.counts l.marks l.self.keys.items l.self.next;
  room : length l.marks ≤ vec_capacity l.self.keys;
}

-- the keys that are left
abbrev pub decreases-loop-self : goal.decreases-loop-self
decreases-loop-self l = length l.self.keys.items - l.self.next
