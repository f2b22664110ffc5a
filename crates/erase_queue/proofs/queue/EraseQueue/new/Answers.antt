use Rattle.std.proofs.{Common.◌≡◌, Common.ap, Common.rules, lemmas.List.Elements.All-push}
use Rattle.crossbeam_queue.specs.Passes.{view, IsPassOf}
use Rattle.erase_queue.{specs.declared.pass.QueuePass.QueuePass, specs.declared.sight.Sight.Sight, specs.Rule.counter, specs.Rule.user_of, proofs.Course.deals}
use Rattle.erase_queue.proofs.queue.EraseQueue.new.Goals as goal

pub another-requires-clause-rule : goal.another-requires-clause-rule
another-requires-clause-rule c = deals _ _ (ap (λ (v : Sight). v.role) c.loop.invariant.1)

pub loop-preserved : goal.loop-preserved
loop-preserved c =
    let IsDealt : QueuePass → Type 0 = λ p. IsPassOf c.in_ok-numbers.numbers p.port × (view p.port ≡ user_of (counter c.args.limit)) × (p.fulls ≡ 0)
    × (p.empties ≡ 0) in
    let dealt : IsDealt c.new.result = search rules in (
      search rules,
      search rules,
      search rules,
      search rules,
      rw c.push_reserved.ensures.items (All-push IsDealt c.loop.passes.items c.new.result c.loop.invariant.4 dealt),
    )

pub returns-clause-passes : goal.returns-clause-passes
returns-clause-passes c = search rules
