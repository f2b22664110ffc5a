use Rattle.std.proofs.Common.{◌≡◌, ◌%◌, ◌<◌, ◌∙◌, ap, sym, arith, get_or, length}
use Rattle.std.proofs.lemmas.{Grind.common_steps, List.get_or_default}
use Rattle.geometry.specs.Greedy.{IsClosed}
use Rattle.broom.specs.declared.ranking.TheConstants.{ONE_PAGE}
use Rattle.broom.proofs.Ranks.{ranked_first, ranked_none}
use Rattle.broom.proofs.ranking.Ranking.first.Goals as goal

pub returns-then-marked-clause-value : goal.returns-then-marked-clause-value
returns-then-marked-clause-value c =
    let keys = c.loop-self.self.keys.items in
    let next = c.loop-self.self.next in
    let low : next < length keys = let below = c.loop-self-test.true in let len = c.len.ensures in omega arith in
    let key : c.index.result.now ≡ get_or keys next 0 = c.index.ensures ∙ sym (get_or_default keys next 0 c.index.result.now low) in
    let shut : IsClosed c.args.marks.now (c.index.result.now % ONE_PAGE) = grind (arith, common_steps) in
    ranked_first c.args.counts.now c.args.marks.now keys next c.loop-self.invariant.ranked c.requires.long c.requires.few _ low
    (ap (λ n. n % ONE_PAGE) key) shut

pub returns-clause-value : goal.returns-clause-value
returns-clause-value c =
    let past = c.loop-self-test.false in
    let len = c.len.ensures in
    ranked_none c.args.counts.now c.args.marks.now c.loop-self.self.keys.items c.loop-self.self.next c.loop-self.invariant.ranked c.requires.long
    c.requires.few (omega arith)
