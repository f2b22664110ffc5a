use Rattle.std.{proofs.Common.◌≡◌, proofs.Common.◌≤◌, proofs.Common.◌+◌, proofs.Common.◌-◌, proofs.Common.vec_len, specs.Io.KnownBytes.Consumes}
use Rattle.streams.specs.Watched.{failures_of, inner_of}
use Rattle.trace.specs.declared.loading.TheConstants.{MAX_TRACE_BYTES}
use Rattle.trace.proofs.loading.load.Given as goal

-- the text is what was taken from the reader so far, and no read failed
abbrev pub invariant-loop-piece : goal.invariant-loop-piece
invariant-loop-piece g l = record {
  taken : Consumes (g.R.Read.remaining (inner_of l.initial.reader)) (g.R.Read.remaining (inner_of l.reader)) l.text.items;
  unfailed : failures_of l.reader ≡ failures_of l.initial.reader;
  small : vec_len l.text ≤ MAX_TRACE_BYTES + 1;
}

abbrev pub decreases-loop-piece : goal.decreases-loop-piece
decreases-loop-piece g l = MAX_TRACE_BYTES + 1 - vec_len l.text
