use Rattle.std.proofs.{Common.◌+◌, Common.◌<◌, Common.get_or, Common.length, Common.ap, Common.arith, Common.sym, Common.◌∙◌, lemmas.List.get_or-map}
use Rattle.std.{proofs.lemmas.List.map-set, specs.Prelude.if◌then◌else◌, specs.Prelude.slice_get, specs.Prelude.slice_set, specs.Prelude.None}
use Rattle.rounds.{specs.Answers.first_place, specs.Answers.answer_index, proofs.Planning.is_line, specs.Merging.answers_by}
use Rattle.runs.{specs.Texts.passed_in, proofs.Rows.at_more, proofs.Rows.row_is, proofs.Rows.row_there}
use Rattle.runs.proofs.delivering.next_answer.Goals as goal

pub returns : goal.returns
returns c =
    let rows = c.args.rows.now in
    let next = c.args.next.now in
    let w = c.args.command.now.worker in
    let row = c.index-rows-worker.result in
    let p = get_or (passed_in next) w 0 in
    let plain = is_line c.args.command.now.op c.in_default.not-Meet in
    let low = row_there rows w p (c.requires.there plain) in
    let inside : w < length next = (let workers = c.requires.workers in omega arith) in
    let here = get_or-map answer_index next w first_place 0 inside in
    record {
      answer =
          sym c.next.ensures.answer
          ∙ (ap (λ l. slice_get l (answer_index (get_or next w first_place))) (sym (row_is rows w row c.index-rows-worker.is low))
          ∙ (ap (slice_get (answers_by rows w)) (sym here) ∙ sym (ap (λ b. if b then None else slice_get (answers_by rows w) p) plain)));
      next =
          map-set answer_index next w c.next.new.cursor
          ∙ (ap (slice_set (passed_in next) w) (c.next.ensures.place ∙ ap (λ n. n + 1) (sym here))
          ∙ sym (ap (λ b. if b then passed_in next else slice_set (passed_in next) w (p + 1)) plain));
      at = at_more rows next w row c.next.new.cursor c.index-rows-worker.is low c.requires.at c.next.ensures.at;
    }
