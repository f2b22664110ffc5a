use Rattle.std.proofs.Common.{◌<◌, ℕ}
use Rattle.durable.specs.Candidates.{IsFreeable}
use Rattle.durable.proofs.candidates.first_freeable.Given as goal

abbrev pub invariant-loop-block : goal.invariant-loop-block
invariant-loop-block l = (b : ℕ) → b < l.block → IsFreeable l.gaps l.found.items b → ⊥
