use Rattle.std.proofs.Common.{◌≡◌, ◌<◌, length, map, take, get_or, ap, subst, ◌∙◌, arith}
use Rattle.std.proofs.lemmas.List.{length-set, take_all, Elements.All-set}
use Rattle.std.specs.Vec.{with_items}
use Rattle.flash_table.specs.Flash.{view_of, geometry_of}
use Rattle.volume.specs.Volume.{flash_of}
use Rattle.rounds.specs.{Lines.said, Playing.Played, declared.answer.Answer.Answer}
use Rattle.workers.specs.Playable.{HasPage}
use Rattle.workers.proofs.PlayedLines.{playing_none, playing_lent, playing_end, lent_page}
use Rattle.workers.proofs.worker.plays.play.Goals as goal

pub loop-i-init : goal.loop-i-init
loop-i-init g c = (playing_none c.args.volume.now c.args.patience c.args.pass.now c.args.lines.now c.requires.pass, c.requires.count, c.requires.pages)

pub loop-i-preserved : goal.loop-i-preserved
loop-i-preserved g c =
    let answers = c.loop-i.answers in
    let a = get_or answers c.loop-i.i c.index-answers-i.result in
    let there : c.loop-i.i < length answers = omega (arith, c.loop-i.invariant.1) in
    let page = c.play_line-answer.new.page in
    let next : Answer = record { kind = c.play_line-answer.result; page = with_items a.page page } in
    let has = c.loop-i.invariant.2 c.loop-i.i c.index-answers-i.result there in (
      playing_lent c.args.volume.now c.args.patience c.args.pass.now c.loop-i.pass c.play_line-answer.new.pass c.args.lines.now c.loop-i.i answers a
          c.play_line-answer.result c.deref_mut.result.now page c.index-lines-i.result
          c.loop-i.invariant.0 c.loop-i.invariant.1 c.loop-i-test.true c.index-lines-i.is c.play_line-answer.ensures.pass c.deref_mut.ensures.value
          c.play_line-answer.auto.page c.play_line-answer.ensures.played,
      length-set answers c.loop-i.i next ∙ c.loop-i.invariant.1,
      All-set (HasPage (geometry_of (flash_of c.args.volume.now))) answers c.loop-i.i next
          (lent_page c.args.volume.now a c.deref_mut.result.now page c.deref_mut.ensures.value c.play_line-answer.auto.page has) c.loop-i.invariant.2,
    )

pub returns-clause-played : goal.returns-clause-played
returns-clause-played g c =
    let answers = c.loop-i.answers in
    let past = c.loop-i-test.false in
    let all : map said (take c.loop-i.i answers) ≡ map said answers = ap (map said) (take_all c.loop-i.i answers (omega (arith, c.loop-i.invariant.1))) in
    λ t role. subst (λ l. Played t c.args.patience (view_of c.args.pass.now) c.args.lines.now l (view_of c.loop-i.pass)) all
    (playing_end c.args.volume.now c.args.patience c.args.pass.now c.loop-i.pass c.args.lines.now c.loop-i.i
    (map said (take c.loop-i.i answers)) c.loop-i.invariant.0 (omega arith) t role)
