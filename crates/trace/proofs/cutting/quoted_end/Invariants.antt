use Rattle.std.proofs.Common.{◌-◌, length}
use Rattle.trace.proofs.Cuts.{IsOpen}
use Rattle.trace.proofs.cutting.quoted_end.Given as goal

-- the field's quotes are open
abbrev pub invariant-quotes : goal.invariant-quotes
invariant-quotes l = IsOpen l.text l.start l.at

abbrev pub decreases-quotes : goal.decreases-quotes
decreases-quotes l = length l.text - l.at
