use Rattle.std.proofs.Common.{◌≡◌}
use Rattle.crossbeam_queue.specs.Passes.{view, IsPassOf}
use Rattle.erase_queue.specs.Rule.{counter}
use Rattle.erase_queue.proofs.queue.fix_limit.Given as goal

abbrev pub invariant-loop : goal.invariant-loop
invariant-loop l = IsPassOf l.numbers l.first × (view l.first ≡ counter l.counter)
