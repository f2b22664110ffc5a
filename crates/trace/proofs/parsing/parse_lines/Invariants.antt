use Rattle.std.proofs.Common.{◌≤◌, ◌-◌, length}
use Rattle.trace.specs.{Drafting.IsDraft, Parsing.AreSoFar, Stored.drafted}
use Rattle.trace.proofs.parsing.parse_lines.Given as goal

-- the records so far are the commands so far
abbrev pub invariant-records : goal.invariant-records
invariant-records l = record {
  place : l.at ≤ length l.text;
  draft : IsDraft l.geometry l.text l.draft;
  so_far : AreSoFar l.geometry l.text l.at (drafted l.text l.draft);
}

abbrev pub decreases-records : goal.decreases-records
decreases-records l = length l.text - l.at
