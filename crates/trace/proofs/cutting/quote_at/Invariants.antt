use Rattle.csv.specs.declared.parser.State.TheVariants.{InQuoted}
use Rattle.trace.specs.Cutting.{Joins}
use Rattle.trace.proofs.cutting.quote_at.Given as goal

-- the bytes so far join the field
abbrev pub invariant-loop-quote : goal.invariant-loop-quote
invariant-loop-quote l = Joins InQuoted l.text l.from l.quote
