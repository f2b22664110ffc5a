use Rattle.std.proofs.Common.{◌≤◌, vec_capacity}
use Rattle.flash_table.proofs.DealtPasses.{Deals, DealsBrooms}
use Rattle.flash_table.proofs.flash.Flash.open.Given as goal

abbrev pub invariant-loop : goal.invariant-loop
invariant-loop l = Deals l.flash l.dealer l.passes.items l.counter × (l.hosts ≤ vec_capacity l.passes)

abbrev pub invariant-loop-i : goal.invariant-loop-i
invariant-loop-i l = DealsBrooms l.flash l.dealer l.brooms.items l.i × (l.count ≤ vec_capacity l.brooms)
