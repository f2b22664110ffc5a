use Rattle.std.proofs.Common.{◌≡◌}
use Rattle.std.specs.Vec.{vec_capacity}
use Rattle.broom.proofs.Ranks.{KeysTo}
use Rattle.broom.proofs.ranking.Ranking.make.Given as goal

abbrev pub invariant-loop-block : goal.invariant-loop-block
invariant-loop-block l = record {
  keys : KeysTo l.counts l.marks l.block l.self.keys.items;
  room : vec_capacity l.self.keys ≡ vec_capacity l.fn.self.keys;
}
