use Rattle.std.proofs.Common.{ap}
use Rattle.erase_queue.{specs.declared.sight.Sight.Sight, proofs.Course.counts_up, proofs.Course.limit_fixed}
use Rattle.erase_queue.proofs.queue.fix_limit.Goals as goal

pub another-requires-clause-rule : goal.another-requires-clause-rule
another-requires-clause-rule c = counts_up _ _ (ap (λ (v : Sight). v.role) c.loop.invariant.1)

pub another-requires-2-clause-rule : goal.another-requires-2-clause-rule
another-requires-2-clause-rule c = limit_fixed _ _ (ap (λ (v : Sight). v.role) c.loop.invariant.1)
