use Rattle.std.proofs.{Common.◌≡◌, Common.◌∙◌, Common.Bool, Common.List, Common.refl, Common.subst, Common.sym, Common.arith, lemmas.Grind.common_steps}
use Rattle.std.{proofs.lemmas.List.reverse-reverse, specs.List.All}
use Rattle.streams.specs.Watched.{inner_of}
use Rattle.trace.specs.declared.commands.Command.{Command}
use Rattle.answers.specs.{Answers.IsPlayable, Streams.over, Streams.stream_of}
use Rattle.answers.specs.Streams.{Whole, Writes, WritesIf}
use Rattle.rounds.specs.{Merging.answers_by, Answers.page_size_of, declared.answer_list.Answers.Answers}
use Rattle.geometry.specs.Geometry.{page_bytes_of}
use Rattle.runs.specs.{Texts.digits_in, Outputs.written_by_workers, Logs.IsBroomLogOf, Logs.brooms_text}
use Rattle.runs.proofs.LogTexts.{brooms_right, ends_file}
use Rattle.runs.proofs.DeliveredAnswers.{all_digits, enough_answers, part_sent, renamed, renamed_meaning, some_meaning, text_sent}
use Rattle.workers.specs.{declared.collector.collector_end.CollectorEnd.CollectorEnd, Served.AllHaveServed}
use Rattle.runs.proofs.many_threads.run_logged.Goals as goal

pub write_out-requires-clause-answers : goal.write_out-requires-clause-answers
write_out-requires-clause-answers g c =
    let geo = c.args.geometry.now in
    let commands = c.deref.result.now in
    let kept : c.deref-2.result.now ≡ c.in-Ok-play_commands.end.rows.items = grind (arith, common_steps, reverse-reverse) in
    let played = renamed geo commands _ c.deref-2.result.now _ c.deref.ensures kept c.in-Ok-play_commands.ensures.played in
    let same : commands ≡ c.in-Ok.commands = c.deref.ensures ∙ c.in-Ok-new-2.ensures.ok in
    enough_answers geo commands (answers_by c.deref-2.result.now) c.requires.hosts (subst (All (IsPlayable geo)) (sym same) c.in-Ok.ensures.playable) played

pub write_out-requires-clause-pages : goal.write_out-requires-clause-pages
write_out-requires-clause-pages g c =
    let geo = c.args.geometry.now in
    let kept : c.deref-2.result.now ≡ c.in-Ok-play_commands.end.rows.items = grind (arith, common_steps, reverse-reverse) in
    let sizes = subst (All (λ row. page_size_of row ≡ page_bytes_of geo)) (sym kept) c.in-Ok-play_commands.ensures.pages in
    all_digits geo c.deref-2.result.now (digits_in c.in-Ok-new.delivery) c.in-Ok-new.ensures.digits sizes

pub returns-in-Ok-write_out-clause-ended : goal.returns-in-Ok-write_out-clause-ended
returns-in-Ok-write_out-clause-ended g c =
    let geo = c.args.geometry.now in
    let commands = c.deref.result.now in
    let input = g.R.Read.remaining (inner_of c.args.reader.now) in
    let kept : c.deref-2.result.now ≡ c.in-Ok-play_commands.end.rows.items = grind (arith, common_steps, reverse-reverse) in
    let played = renamed geo commands _ c.deref-2.result.now _ c.deref.ensures kept c.in-Ok-play_commands.ensures.played in
    let meaning = renamed_meaning geo commands _ input (c.deref.ensures ∙ c.in-Ok-new-2.ensures.ok) c.in-Ok.ensures.commands in
    let sent = text_sent geo commands (answers_by c.deref-2.result.now) played c.args.options.answers input _ _ meaning c.in-Ok-write_out.ensures.1 in
    (c.in-Ok.ensures.end, sent, c.in-Ok.ensures.unfailed, c.in-Ok-write_out.ensures.0)

pub returns-in-Err-write_out-clause-ended : goal.returns-in-Err-write_out-clause-ended
returns-in-Err-write_out-clause-ended g c =
    let geo = c.args.geometry.now in
    let commands = c.deref.result.now in
    let input = g.R.Read.remaining (inner_of c.args.reader.now) in
    let kept : c.deref-2.result.now ≡ c.in-Ok-play_commands.end.rows.items = grind (arith, common_steps, reverse-reverse) in
    let played = renamed geo commands _ c.deref-2.result.now _ c.deref.ensures kept c.in-Ok-play_commands.ensures.played in
    let meaning = renamed_meaning geo commands _ input (c.deref.ensures ∙ c.in-Ok-new-2.ensures.ok) c.in-Ok.ensures.commands in (
      record { end = c.in-Ok.ensures.end; unfailed = c.in-Ok.ensures.unfailed; meaning = some_meaning geo commands input meaning },
      c.in-Err-write_out.ensures.0,
      part_sent geo commands (answers_by c.deref-2.result.now) played c.args.options.answers input _ _ meaning c.in-Err-write_out.ensures.1,
    )

pub returns-in-Err-Threads-clause-ended : goal.returns-in-Err-Threads-clause-ended
returns-in-Err-Threads-clause-ended g c =
    let input = g.R.Read.remaining (inner_of c.args.reader.now) in (
      λ none. omega (arith, none),
      record {
        end = c.in-Ok.ensures.end;
        unfailed = c.in-Ok.ensures.unfailed;
        meaning = some_meaning c.args.geometry.now c.in-Ok.commands input c.in-Ok.ensures.commands;
      },
      refl,
    )

pub returns-in-Ok-write_out-clause-log : goal.returns-in-Ok-write_out-clause-log
returns-in-Ok-write_out-clause-log g c =
    let geo = c.args.geometry.now in
    let input = stream_of g.R.Read.remaining c.args.reader.now in
    let file = over g.V.Write.contents c.args.file.now c.tell_brooms_if-log.new.file in
    let ends = c.deref-in-Ok-write_out.result.now in
    let served = subst (AllHaveServed geo c.args.options.drains) (sym c.deref-in-Ok-write_out.ensures.value) c.in-Ok-play_commands.ensures.brooms in
    ends_file c.args.options.log (IsBroomLogOf c.args.options.drains geo) input file (brooms_text ends) c.tell_brooms_if-log.result
    (brooms_right geo input.bytes c.in-Ok.commands c.args.options.drains ends c.in-Ok.ensures.commands served)
    (subst (λ w. WritesIf w (brooms_text ends) file c.tell_brooms_if-log.result) c.in-Ok-log_room.ensures.wanted c.tell_brooms_if-log.ensures)

pub returns-in-Ok-write_out-clause-played : goal.returns-in-Ok-write_out-clause-played
returns-in-Ok-write_out-clause-played g c =
    let geo = c.args.geometry.now in
    let input = g.R.Read.remaining (inner_of c.args.reader.now) in
    let file = over g.V.Write.contents c.args.file.now c.tell_brooms_if-log.new.file in
    let output = over g.W.Write.contents c.args.writer.now c.write_out.new.writer in
    let ends = c.in-Ok-play_commands.end.brooms.items in
    let kept : c.deref-2.result.now ≡ c.in-Ok-play_commands.end.rows.items = grind (arith, common_steps, reverse-reverse) in
    record {
      meaning = renamed_meaning geo _ _ input c.in-Ok-new-2.ensures.ok c.in-Ok.ensures.commands;
      workers = c.in-Ok-play_commands.ensures.rows;
      answered = record {
        few = (let low = geo.in_limits.hosts_high in let rows = c.in-Ok-play_commands.ensures.rows in omega (arith, low, rows));
        answers = enough_answers geo _ _ c.requires.hosts (subst (All (IsPlayable geo)) (sym c.in-Ok-new-2.ensures.ok) c.in-Ok.ensures.playable)
            c.in-Ok-play_commands.ensures.played;
      };
      played = c.in-Ok-play_commands.ensures.played;
      written = subst (λ (x : List Command × List Answers). Writes Whole (written_by_workers c.args.options.answers x.0 (answers_by x.1)) output)
          (λ i. (c.deref.ensures i, kept i)) c.in-Ok-write_out.ensures.1;
      served = c.in-Ok-play_commands.ensures.brooms;
      log = subst (λ (x : Bool × List CollectorEnd). WritesIf x.0 (brooms_text x.1) file c.tell_brooms_if-log.result)
          (λ i. (c.in-Ok-log_room.ensures.wanted i, c.deref-in-Ok-write_out.ensures.value i)) c.tell_brooms_if-log.ensures;
    }
