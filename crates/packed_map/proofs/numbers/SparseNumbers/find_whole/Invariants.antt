use Rattle.std.proofs.Common.{◌≡◌, get_or, None}
use Rattle.packed_map.specs.Finding.{Finds}
use Rattle.packed_map.proofs.numbers.SparseNumbers.find_whole.Given as goal

abbrev pub invariant-loop-i : goal.invariant-loop-i
invariant-loop-i l = Finds (λ i. get_or l.self i 0 ≡ l.number) l.first l.i None
