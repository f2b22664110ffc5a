use Rattle.std.proofs.Common.{◌≡◌, ◌≤◌, ◌-◌, drop, length}
use Rattle.trace.specs.{Drafting.IsDraft, Parsing.AreSoFar, Cutting.IsReading, Cutting.records_left, Stored.drafted, Trace.records_of}
use Rattle.trace.proofs.parsing.parse_rest.Given as goal

-- the records so far are the commands so far, and csv has those behind them left
abbrev pub invariant-records : goal.invariant-records
invariant-records l = record {
  place : l.at ≤ length l.text;
  draft : IsDraft l.geometry l.text l.draft;
  so_far : AreSoFar l.geometry l.text l.at (drafted l.text l.draft);
  reading : IsReading l.rows;
  left : records_left l.rows ≡ records_of (drop l.at l.text);
}

abbrev pub decreases-records : goal.decreases-records
decreases-records l = length l.text - l.at
