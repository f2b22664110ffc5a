use Rattle.std.proofs.Common.{◌≡◌, All, length}
use Rattle.crossbeam_queue.specs.Passes.{view, IsPassOf}
use Rattle.erase_queue.specs.{declared.pass.QueuePass.QueuePass, Rule.counter, Rule.dealer, Rule.user_of}
use Rattle.erase_queue.proofs.queue.EraseQueue.new.Given as goal

abbrev pub invariant-loop : goal.invariant-loop
invariant-loop l =
    IsPassOf l.numbers l.first
    × (view l.first ≡ dealer (counter l.limit))
    × (length l.passes.items ≡ l.counter)
    × (l.passes.cap ≡ l.brooms)
    × All (λ (p : QueuePass). IsPassOf l.numbers p.port × (view p.port ≡ user_of (counter l.limit)) × (p.fulls ≡ 0) × (p.empties ≡ 0)) l.passes.items
