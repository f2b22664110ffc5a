use Rattle.std.proofs.Common.{◌≡◌, length}
use Rattle.streams.specs.Watched.{failures_of, inner_of}
use Rattle.answers.specs.Delivery.{IsUnderWay, page_digits_of, waiting_of}
use Rattle.rounds.specs.Merging.{answers_by}
use Rattle.runs.{specs.Texts.AreAt, specs.Texts.digits_in, specs.Texts.passed_in, proofs.Deliveries.text_before, proofs.Rows.AreNext}
use Rattle.runs.proofs.delivery.Delivery.deliver.Given as goal

abbrev pub invariant-loop-i : goal.invariant-loop-i
invariant-loop-i g l = record {
  next : AreNext (passed_in l.next.items) l.i l.commands;
  at : AreAt l.rows l.next.items;
  long : length l.next.items ≡ length l.rows;
  page : page_digits_of l.lines ≡ digits_in l.fn.self;
  unfailed : failures_of l.writer ≡ failures_of l.initial.writer;
  text : IsUnderWay (g.W.Write.contents (inner_of l.initial.writer)) (g.W.Write.contents (inner_of l.writer)) (waiting_of l.lines)
      (text_before l.i l.commands (answers_by l.rows));
}
