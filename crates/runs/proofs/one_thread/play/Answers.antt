use Rattle.std.proofs.Common.{◌≡◌, length, arith, refl, subst, sym, ◌∙◌}
use Rattle.ftl_one.specs.OneFtl.{geometry_of, array_of, stock_of}
use Rattle.streams.specs.Watched.{inner_of}
use Rattle.answers.specs.{Delivery.waiting_of, Streams.over, Streams.stream_of, Answers.IsPlayable}
use Rattle.answers.proofs.Deliveries.{OnErr-any, WritesOut-rest, WritesOut-stopped}
use Rattle.runs.specs.{Logs.log_before, Logs.IsLogged, Outputs.written_of, Playing.ArePlayed, Playing.answers_written}
use Rattle.runs.proofs.{LogTexts.log_left_of, LogTexts.log_none, LogTexts.log_turn, RefusedWrites.refused_few, RefusedWrites.refused_turn}
use Rattle.runs.proofs.Plays.{All-at, ArePlayed-none, ArePlayed-turn, text_whole, lines_begin}
use Rattle.runs.proofs.one_thread.play.Goals as goal

pub answer_logged-requires-clause-playable : goal.answer_logged-requires-clause-playable
answer_logged-requires-clause-playable g c =
    subst (λ geo. IsPlayable geo c.command-command.result) (sym c.loop-i.invariant.0)
    (All-at (IsPlayable (geometry_of c.args.ftl.now)) c.args.commands.now c.loop-i.i c.command-command.result c.requires.playable c.command-command.ensures.at)

pub loop-i-preserved : goal.loop-i-preserved
loop-i-preserved g c =
    let geo = geometry_of c.args.ftl.now in
    let commands = c.args.commands.now in
    let file = over g.V.Write.contents c.args.file.now c.answer_logged.new.file in
    let played = ArePlayed-turn c.args.answers _ _ _ _ _ _ _ _ _ _ _ _ _ _ _ c.loop-i.invariant.0 c.loop-i.invariant.3 c.in_ok-make_room.ensures.moved
    c.command-command.ensures.at c.answer_logged.ensures.array c.answer_logged.ensures.stock c.answer_logged.ensures.lines in (
      c.answer_logged.ensures.geometry ∙ c.loop-i.invariant.0,
      c.answer_logged.ensures.page ∙ (c.make_room.ensures.page ∙ c.loop-i.invariant.1),
      c.in_ok-make_room.ensures.failed ∙ c.loop-i.invariant.2,
      played,
      c.answer_logged.ensures.wanted ∙ c.loop-i.invariant.4,
      log_turn geo (geometry_of c.loop-i.ftl) commands c.loop-i.i (stock_of c.loop-i.ftl) (stock_of c.answer_logged.new.ftl) c.answer_logged.new.log file
          c.loop-i.invariant.0 c.loop-i.invariant.3.stock_is played.stock_is
          (c.answer_logged.ensures.logged (stream_of g.V.Write.contents c.args.file.now) (log_before geo commands c.loop-i.i) c.loop-i.invariant.5),
      refused_turn geo (geometry_of c.loop-i.ftl) commands c.loop-i.i c.command-command.result (stock_of c.loop-i.ftl) c.loop-i.desk.refused
          c.make_room.new.self.refused c.answer_logged.new.desk.refused c.loop-i.invariant.0 c.command-command.ensures.at
          c.loop-i.invariant.3.stock_is c.loop-i.invariant.6 c.make_room.ensures.refused c.answer_logged.ensures.refused,
    )

pub loop-i-init : goal.loop-i-init
loop-i-init g c =
    let geo = geometry_of c.args.ftl.now in
    let commands = c.args.commands.now in (
      refl,
      c.requires.page,
      refl,
      ArePlayed-none c.args.answers geo commands (array_of c.args.ftl.now) (stock_of c.args.ftl.now) _ _ c.requires.array c.requires.stock c.requires.lines,
      refl,
      subst (IsLogged c.args.log.now (over g.V.Write.contents c.args.file.now c.args.file.now)) (sym (log_none geo commands)) c.requires.names,
      c.requires.none_refused,
    )

pub returns-in_err-make_room-clause-log_left : goal.returns-in_err-make_room-clause-log_left
returns-in_err-make_room-clause-log_left g c =
    OnErr-any _ c.from_residual.result
    (log_left_of (geometry_of c.args.ftl.now) c.args.commands.now c.loop-i.i c.args.log.now c.loop-i.log _
    (omega arith) c.loop-i.invariant.4 c.loop-i.invariant.5)

pub answer_logged-requires-clause-count : goal.answer_logged-requires-clause-count
answer_logged-requires-clause-count g c =
    let few = refused_few (geometry_of c.args.ftl.now) c.args.commands.now c.loop-i.i in
    let so_far = c.make_room.ensures.refused ∙ c.loop-i.invariant.6 in
    omega (arith, few, so_far)

pub returns-in_err-make_room-clause-sent : goal.returns-in_err-make_room-clause-sent
returns-in_err-make_room-clause-sent g c =
    let geo = geometry_of c.args.ftl.now in
    let commands = c.args.commands.now in
    let known = stream_of g.W.Write.contents in
    let told = c.in_err-make_room.ensures in
    WritesOut-stopped (written_of c.args.answers geo commands) (answers_written c.args.answers geo commands c.loop-i.i) (waiting_of c.loop-i.desk.lines)
    (known c.args.writer.now) (known c.loop-i.writer) (known c.make_room.new.writer) c.from_residual.result
    c.loop-i.invariant.2 c.loop-i.invariant.3.text (lines_begin c.args.answers geo commands c.loop-i.i (omega arith))
    told.failed told.part c.from_residual.ensures.0

pub returns-in_err-make_room-2-clause-sent : goal.returns-in_err-make_room-2-clause-sent
returns-in_err-make_room-2-clause-sent g c =
    let geo = geometry_of c.args.ftl.now in
    let commands = c.args.commands.now in
    let known = stream_of g.W.Write.contents in
    let told = c.in_err-make_room-2.ensures in
    WritesOut-stopped (written_of c.args.answers geo commands) (answers_written c.args.answers geo commands c.loop-i.i) (waiting_of c.loop-i.desk.lines)
    (known c.args.writer.now) (known c.loop-i.writer) (known c.make_room-2.new.writer) c.from_residual-in_err-make_room-2.result
    c.loop-i.invariant.2 c.loop-i.invariant.3.text (lines_begin c.args.answers geo commands c.loop-i.i (omega arith))
    told.failed told.part c.from_residual-in_err-make_room-2.ensures.0

pub returns-clause-sent : goal.returns-clause-sent
returns-clause-sent g c =
    let geo = geometry_of c.args.ftl.now in
    let commands = c.args.commands.now in
    let known = stream_of g.W.Write.contents in
    let old = g.W.Write.contents (inner_of c.args.writer.now) in
    let all : c.loop-i.i ≡ length commands = omega arith in
    let played : ArePlayed c.args.answers geo commands (length commands) (array_of c.loop-i.ftl) (stock_of c.loop-i.ftl) old
    (g.W.Write.contents (inner_of c.loop-i.writer)) (waiting_of c.loop-i.desk.lines) =
    subst (λ n. ArePlayed c.args.answers geo commands n (array_of c.loop-i.ftl) (stock_of c.loop-i.ftl) old
    (g.W.Write.contents (inner_of c.loop-i.writer)) (waiting_of c.loop-i.desk.lines)) all c.loop-i.invariant.3 in
    let whole = text_whole c.args.answers geo commands _ _ old _ _ _ _ _ played c.in_ok-make_room-2.ensures.moved c.end.ensures.lines in
    WritesOut-rest (written_of c.args.answers geo commands) (waiting_of c.end.new.self.lines) (known c.args.writer.now)
    (known c.make_room-2.new.writer) (known c.hand_on.new.writer) c.hand_on.result
    (c.in_ok-make_room-2.ensures.failed ∙ c.loop-i.invariant.2) whole c.hand_on.ensures.sent
