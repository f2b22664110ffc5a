use Rattle.std.proofs.Common.{◌≡◌, length}
use Rattle.rounds.specs.Merging.{answers_by}
use Rattle.runs.{specs.Texts.AreAt, specs.Texts.passed_in, proofs.RefusedWrites.lines_refused, proofs.Rows.AreNext}
use Rattle.runs.proofs.refusals.count_refused.Given as goal

abbrev pub invariant-loop-i : goal.invariant-loop-i
invariant-loop-i l = record {
  next : AreNext (passed_in l.next) l.i l.commands;
  at : AreAt l.rows l.next;
  long : length l.next ≡ length l.rows;
  count : l.refused ≡ lines_refused l.i l.commands (answers_by l.rows);
}
