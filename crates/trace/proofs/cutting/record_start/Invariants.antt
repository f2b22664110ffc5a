use Rattle.std.proofs.Common.{◌≡◌, drop}
use Rattle.trace.specs.Cutting.{next_records}
use Rattle.trace.proofs.cutting.record_start.Given as goal

-- line ends hold no record
abbrev pub invariant-loop-start : goal.invariant-loop-start
invariant-loop-start l = next_records (drop l.from l.text) ≡ next_records (drop l.start l.text)
