use Rattle.csv.specs.declared.parser.State.TheVariants.{InField}
use Rattle.trace.specs.Cutting.{Joins}
use Rattle.trace.proofs.cutting.plain_end.Given as goal

-- the bytes so far join the field
abbrev pub invariant-loop-end : goal.invariant-loop-end
invariant-loop-end l = Joins InField l.text l.start l.end
