use Rattle.std.proofs.Common.{◌-◌, length}
use Rattle.csv.specs.declared.parser.State.TheVariants.{InField}
use Rattle.trace.specs.Cutting.{Joins}
use Rattle.trace.proofs.cutting.far_end.Given as goal

-- the bytes so far join the field
abbrev pub invariant-blocks-2 : goal.invariant-blocks-2
invariant-blocks-2 l = Joins InField l.text l.start l.at

abbrev pub decreases-blocks-2 : goal.decreases-blocks-2
decreases-blocks-2 l = length l.text - l.at

abbrev pub invariant-loop-end : goal.invariant-loop-end
invariant-loop-end l = Joins InField l.text l.start l.end
