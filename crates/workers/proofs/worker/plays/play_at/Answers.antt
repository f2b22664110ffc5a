use Rattle.std.proofs.Common.{◌≡◌, ◌<◌, length, ◌∙◌, sym, subst, arith}
use Rattle.flash_table.specs.Flash.{geometry_of}
use Rattle.rounds.specs.Answers.{page_size_of}
use Rattle.trace.specs.declared.commands.Command.{Command}
use Rattle.volume.specs.Volume.{flash_of}
use Rattle.workers.specs.Playable.{IsLine, lines_at}
use Rattle.workers.proofs.PlayedLines.{line_there, count_lines, told_of_read}
use Rattle.workers.proofs.AddedAnswers.{adding_none, adding_more, adding_end, room_next}
use Rattle.workers.proofs.worker.plays.play_at.Goals as goal

pub loop-i-init : goal.loop-i-init
loop-i-init g c = (
  adding_none c.args.volume.now c.args.patience c.args.pass.now
      (lines_at c.args.commands.now c.args.places.now) c.args.answers.now c.requires.pass,
  omega arith,
)

pub play_line-kind-requires-clause-line : goal.play_line-kind-requires-clause-line
play_line-kind-requires-clause-line g c =
    let commands = c.args.commands.now in
    let places = c.args.places.now in
    let line = c.command-line.result in
    let at = line_there commands places c.loop-i.i line c.loop-i-test.true c.command-line.ensures.at in
    let low : c.loop-i.i < length (lines_at commands places) = (let low = c.loop-i-test.true in omega (arith, count_lines commands places)) in
    subst (λ (l : Command). IsLine (geometry_of (flash_of c.args.volume.now)) l) (sym at) (c.requires.lines c.loop-i.i line low)

pub push-requires-clause-space : goal.push-requires-clause-space
push-requires-clause-space g c =
    let commands = c.args.commands.now in
    let places = c.args.places.now in
    let line = c.command-line.result in
    let all = c.loop-i.invariant.0 in
    let told = c.play_line-kind in
    let at = line_there commands places c.loop-i.i line c.loop-i-test.true c.command-line.ensures.at in
    let low : c.loop-i.i < length (lines_at commands places) = (let low = c.loop-i-test.true in omega (arith, count_lines commands places)) in
    let found = told_of_read c.args.patience c.loop-i.pass told.new.pass line.op line.sector line.page told.result told.new.page
    all.playing.ready.rested.pass.role told.ensures.played in
    room_next c.args.volume.now c.args.patience c.args.pass.now c.loop-i.pass
    (lines_at commands places) c.args.answers.now c.loop-i.answers c.loop-i.i line told.result all low at c.requires.space found

pub loop-i-preserved : goal.loop-i-preserved
loop-i-preserved g c =
    let commands = c.args.commands.now in
    let places = c.args.places.now in
    let line = c.command-line.result in
    let all = c.loop-i.invariant.0 in
    let told = c.play_line-kind in
    let at = line_there commands places c.loop-i.i line c.loop-i-test.true c.command-line.ensures.at in
    let low : c.loop-i.i < length (lines_at commands places) = (let low = c.loop-i-test.true in omega (arith, count_lines commands places)) in
    let found = told_of_read c.args.patience c.loop-i.pass told.new.pass line.op line.sector line.page told.result told.new.page
    all.playing.ready.rested.pass.role told.ensures.played in
    let long : length told.new.page ≡ page_size_of c.loop-i.answers =
    told.auto.page ∙ (c.loop-i.auto.buffer ∙ (c.requires.buffer ∙ (sym c.requires.page ∙ sym all.page))) in (
      adding_more c.args.volume.now c.args.patience c.args.pass.now c.loop-i.pass told.new.pass
          (lines_at commands places) c.args.answers.now c.loop-i.answers c.push.new.self c.loop-i.i line told.result told.new.page
          all low at told.ensures.pass found long told.ensures.played c.push.ensures.more c.push.ensures.page c.push.ensures.space,
      (let low = c.loop-i-test.true in omega arith),
    )

pub returns-clause-played : goal.returns-clause-played
returns-clause-played g c =
    adding_end c.args.volume.now c.args.patience c.args.pass.now c.loop-i.pass c.args.commands.now c.args.places.now c.args.answers.now
    c.loop-i.answers c.loop-i.i c.loop-i.invariant.0 (let past = c.loop-i-test.false in omega arith) c.loop-i.invariant.1
