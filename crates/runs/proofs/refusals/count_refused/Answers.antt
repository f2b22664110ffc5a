use Rattle.std.proofs.Common.{◌+◌, ◌≤◌, ◌∙◌, length, ap, arith, refl, subst, sym}
use Rattle.std.{proofs.lemmas.List.length-map}
use Rattle.rounds.specs.{Answers.answer_index, Merging.answers_by}
use Rattle.runs.{specs.Texts.passed_in, proofs.RefusedWrites.lines_few, proofs.RefusedWrites.lines_turn}
use Rattle.runs.proofs.{RefusedWrites.bit_is, RefusedWrites.bit_low, Rows.all_at, Rows.next_is, Rows.next_more, Rows.next_there, Rows.none_passed}
use Rattle.runs.proofs.refusals.count_refused.Goals as goal

pub next_answer-answer-requires-clause-there : goal.next_answer-answer-requires-clause-there
next_answer-answer-requires-clause-there c =
    let next = passed_in c.loop-i.next in
    let long = length-map c.loop-i.next answer_index ∙ c.loop-i.invariant.long in
    next_there c.args.rows.now next c.loop-i.i c.args.commands.now c.command-command.result c.loop-i.invariant.next long c.requires.answers
    c.command-command.ensures.rest

pub loop-i-preserved : goal.loop-i-preserved
loop-i-preserved c =
    let commands = c.args.commands.now in
    let rows = c.args.rows.now in
    let i = c.loop-i.i in
    let command = c.command-command.result in
    let before = passed_in c.loop-i.next in
    let so_far = c.loop-i.invariant.next in
    let long = length-map c.loop-i.next answer_index ∙ c.loop-i.invariant.long in
    let there = next_there rows before i commands command so_far long c.requires.answers c.command-command.ensures.rest in
    let answer = next_is rows before i commands command so_far long _ there c.next_answer-answer.ensures.answer in
    record {
      next = next_more rows before i commands command so_far long _ c.command-command.ensures.at there c.next_answer-answer.ensures.next;
      at = c.next_answer-answer.ensures.at;
      long = c.next_answer-answer.auto.next ∙ c.loop-i.invariant.long;
      count = lines_turn i commands command (answers_by rows) _ c.loop-i.refused _ c.is_refusal.result c.command-command.ensures.at answer
          c.is_refusal.ensures c.loop-i.invariant.count (ap (λ n. c.loop-i.refused + n) (c.from-refused.ensures ∙ bit_is c.is_refusal.result));
    }

pub loop-i-init : goal.loop-i-init
loop-i-init c =
    record {
      next = none_passed c.args.next.now (length c.args.next.now) c.args.commands.now c.requires.first;
      at = all_at c.args.rows.now c.args.next.now (length c.args.next.now) c.requires.first;
      long = c.requires.workers;
      count = refl;
    }

pub overflow_add-refused : goal.overflow_add-refused
overflow_add-refused c =
    let few = lines_few c.loop-i.i c.args.commands.now (answers_by c.args.rows.now) in
    let bit : c.from-refused.result ≤ 1 = subst (λ n. n ≤ 1) (sym c.from-refused.ensures) (bit_low c.is_refusal.result) in
    omega (arith, few, bit)
