use Rattle.std.proofs.Common.{◌≡◌, ◌%◌, get_or}
use Rattle.packed_map.specs.Finding.{Finds}
use Rattle.packed_map.proofs.words.SparseWords.find.Given as goal

abbrev pub invariant-loop-i : goal.invariant-loop-i
invariant-loop-i l = Finds (λ i. get_or l.self i 0 % 4294967296 ≡ l.number) l.first l.i l.found
