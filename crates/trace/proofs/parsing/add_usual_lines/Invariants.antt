use Rattle.std.proofs.Common.{◌≤◌, ◌-◌, length}
use Rattle.trace.specs.{Drafting.IsDraft, Parsing.AreSoFar, Stored.drafted}
use Rattle.trace.proofs.parsing.add_usual_lines.Given as goal

-- the records so far are the commands so far
abbrev pub invariant-lines : goal.invariant-lines
invariant-lines l = record {
  low : l.from ≤ l.at;
  place : l.at ≤ length l.text;
  draft : IsDraft l.geometry l.text l.draft;
  so_far : AreSoFar l.geometry l.text l.at (drafted l.text l.draft);
}

abbrev pub decreases-lines : goal.decreases-lines
decreases-lines l = length l.text - l.at
