use Rattle.std.proofs.Common.{◌+◌, List, length, vec_len, refl, get_or, drop, sym, ap, ◌∙◌, arith, subst}
use Rattle.std.proofs.lemmas.{Grind.common_steps, List.length-map}
use Rattle.answers.{specs.Delivery.waiting_of, specs.Streams.stream_of, proofs.Deliveries.WritesOut-rest, proofs.Deliveries.WritesOut-stopped}
use Rattle.streams.specs.Watched.{inner_of}
use Rattle.rounds.specs.{Merging.answers_by, Answers.answer_index, declared.answer_list.Cursor.Cursor}
use Rattle.runs.specs.Texts.{AreAt, digits_in, passed_in, text_of, HasDigits}
use Rattle.runs.proofs.Deliveries.{delivery_turn, delivery_whole, text_before, text_begins}
use Rattle.runs.proofs.Rows.{all_digits, answer_found, lent, none_passed, all_at, next_is, next_more, next_there, AreNext}
use Rattle.runs.proofs.delivery.Delivery.deliver.Goals as goal

pub next_answer-answer-requires-clause-there : goal.next_answer-answer-requires-clause-there
next_answer-answer-requires-clause-there g c =
    let lent = c.deref_mut.ensures.value in
    let next = passed_in c.deref_mut.result.now in
    let so_far = subst (λ (l : List Cursor). AreNext (passed_in l) c.loop-i.i c.args.commands.now) (sym lent) c.loop-i.invariant.next in
    let long = length-map c.deref_mut.result.now answer_index ∙ (ap (length {A = Cursor}) lent ∙ c.loop-i.invariant.long) in
    next_there c.args.rows.now next c.loop-i.i c.args.commands.now c.command-command.result so_far long c.requires.answers c.command-command.ensures.rest

pub put_answer-requires-clause-pages : goal.put_answer-requires-clause-pages
put_answer-requires-clause-pages g c = λ a is.
    let digits : HasDigits (digits_in c.args.self) a =
    answer_found (HasDigits (digits_in c.args.self)) c.args.rows.now c.command-command.result
    (get_or (passed_in c.deref_mut.result.now) c.command-command.result.worker 0) a
    (all_digits (digits_in c.args.self) c.args.rows.now c.requires.pages) (sym c.next_answer-answer.ensures.answer ∙ is) in
    subst (λ n. HasDigits n a) (sym (c.in_ok-make_room.ensures.page ∙ c.loop-i.invariant.page)) digits

pub loop-i-preserved : goal.loop-i-preserved
loop-i-preserved g c =
    let commands = c.args.commands.now in
    let rows = c.args.rows.now in
    let i = c.loop-i.i in
    let command = c.command-command.result in
    let before = passed_in c.deref_mut.result.now in
    let after = c.next_answer-answer.new.next in
    let lent_next = c.deref_mut.ensures.value in
    let so_far = subst (λ (l : List Cursor). AreNext (passed_in l) i commands) (sym lent_next) c.loop-i.invariant.next in
    let count = ap (length {A = Cursor}) lent_next ∙ c.loop-i.invariant.long in
    let long = length-map c.deref_mut.result.now answer_index ∙ count in
    let there = next_there rows before i commands command so_far long c.requires.answers c.command-command.ensures.rest in
    let back = lent c.loop-i.next.len after (drop (length after) c.loop-i.next.items) (c.next_answer-answer.auto.next ∙ c.deref_mut.ensures.len) in
    let answer = next_is rows before i commands command so_far long _ there c.next_answer-answer.ensures.answer in
    let more = next_more rows before i commands command so_far long (passed_in after) c.command-command.ensures.at there c.next_answer-answer.ensures.next in
    record {
      next = subst (λ (l : List Cursor). AreNext (passed_in l) (i + 1) commands) (sym back) more;
      at = subst (λ (l : List Cursor). AreAt rows l) (sym back) c.next_answer-answer.ensures.at;
      long = ap (length {A = Cursor}) back ∙ (c.next_answer-answer.auto.next ∙ count);
      page = c.put_answer.ensures.page ∙ (c.in_ok-make_room.ensures.page ∙ c.loop-i.invariant.page);
      unfailed = c.in_ok-make_room.ensures.failed ∙ c.loop-i.invariant.unfailed;
      text = delivery_turn i commands command (answers_by rows) _ _ _ _ _ _ _ c.loop-i.invariant.text c.in_ok-make_room.ensures.moved
          c.command-command.ensures.at answer c.put_answer.ensures.waiting;
    }

pub loop-i-init : goal.loop-i-init
loop-i-init g c =
    let self = c.args.self in
    record {
      next = none_passed self.next.items (vec_len self.next) c.args.commands.now self.first;
      at = all_at c.args.rows.now self.next.items (vec_len self.next) self.first;
      long = sym self.next.ok.0 ∙ sym c.requires.workers;
      page = refl;
      unfailed = refl;
      text = grind (arith, common_steps);
    }

pub returns-in_err-make_room : goal.returns-in_err-make_room
returns-in_err-make_room g c =
    let commands = c.args.commands.now in
    let rows = answers_by c.args.rows.now in
    let known = stream_of g.W.Write.contents in
    let told = c.in_err-make_room.ensures in
    WritesOut-stopped (text_of commands rows) (text_before c.loop-i.i commands rows) (waiting_of c.loop-i.lines)
    (known c.args.writer.now) (known c.loop-i.writer) (known c.make_room.new.writer) c.from_residual.result
    c.loop-i.invariant.unfailed c.loop-i.invariant.text (text_begins c.loop-i.i commands rows) told.failed told.part c.from_residual.ensures.0

pub returns-in_err-make_room-2 : goal.returns-in_err-make_room-2
returns-in_err-make_room-2 g c =
    let commands = c.args.commands.now in
    let rows = answers_by c.args.rows.now in
    let known = stream_of g.W.Write.contents in
    let told = c.in_err-make_room-2.ensures in
    WritesOut-stopped (text_of commands rows) (text_before c.loop-i.i commands rows) (waiting_of c.loop-i.lines)
    (known c.args.writer.now) (known c.loop-i.writer) (known c.make_room-2.new.writer) c.from_residual-in_err-make_room-2.result
    c.loop-i.invariant.unfailed c.loop-i.invariant.text (text_begins c.loop-i.i commands rows) told.failed told.part
    c.from_residual-in_err-make_room-2.ensures.0

pub returns : goal.returns
returns g c =
    let commands = c.args.commands.now in
    let rows = answers_by c.args.rows.now in
    let known = stream_of g.W.Write.contents in
    let whole = delivery_whole c.loop-i.i commands rows (g.W.Write.contents (inner_of c.args.writer.now)) _ _ _ _ _
    (omega arith) c.loop-i.invariant.text c.in_ok-make_room-2.ensures.moved c.end.ensures.waiting in
    WritesOut-rest (text_of commands rows) (waiting_of c.end.new.self) (known c.args.writer.now) (known c.make_room-2.new.writer)
    (known c.hand_on.new.writer) c.hand_on.result (c.in_ok-make_room-2.ensures.failed ∙ c.loop-i.invariant.unfailed) whole c.hand_on.ensures.sent
