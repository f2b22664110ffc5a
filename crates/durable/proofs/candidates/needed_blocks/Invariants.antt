use Rattle.std.proofs.Common.{◌≡◌, ◌<◌, ℕ, length, None, Some, true, false, slice_index_or}
use Rattle.durable.specs.declared.found.Candidate.{Candidate}
use Rattle.durable.specs.Candidates.{HasTwin, IsFreeable}
use Rattle.durable.proofs.candidates.needed_blocks.Given as goal

abbrev pub invariant-loop-s : goal.invariant-loop-s
invariant-loop-s l = record {
  size : length l.needed.items ≡ l.blocks;
  needed : (b : ℕ) → b < l.blocks → slice_index_or l.needed.items b false ≡ true → IsFreeable l.gaps l.found.items b → ⊥;
  free : (b s : ℕ) (x : Candidate) → b < l.blocks → slice_index_or l.needed.items b false ≡ false → s < l.s → slice_index_or l.found.items s None ≡ Some x
      → x.at.block ≡ b → HasTwin l.gaps x b;
}
