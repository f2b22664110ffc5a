use Rattle.std.proofs.{Common.arith, lemmas.List.Sorted.IsNonDecreasingBy-from_sort}
use Rattle.broom.proofs.Ranks.{keys_ranked}
use Rattle.broom.proofs.ranking.Ranking.make.Goals as goal

pub returns-clause-ranked : goal.returns-clause-ranked
returns-clause-ranked c =
    let past = c.loop-block-test.false in
    let long = c.requires.long in
    let told = c.sort_unstable.ensures in
    keys_ranked c.args.counts.now c.args.marks.now c.loop-block.block c.loop-block.self.keys.items c.sort_unstable.new.self.items
    (omega arith) c.loop-block.invariant.keys told.permutation (IsNonDecreasingBy-from_sort (λ n. n) c.sort_unstable.new.self.items told.sorted)
