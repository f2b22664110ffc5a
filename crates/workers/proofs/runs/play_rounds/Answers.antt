use Rattle.std.proofs.Common.{◌≡◌, ◌+◌, ◌∷◌, suc, drop, get_or, subst, arith}
use Rattle.std.proofs.{Math.Seq.drop-cons, lemmas.List.drop_all}
use Rattle.workers.proofs.RunStates.{RunState, state_begins, state_next, state_ends}
use Rattle.workers.proofs.BroomCalls.{all_collected_none, all_collected_then, collected_long}
use Rattle.workers.proofs.runs.play_rounds.Goals as goal

pub loop-i-init : goal.loop-i-init
loop-i-init g c = record {
  manned = c.requires.manned;
  gates = c.requires.gates;
  run = λ trace begun. state_begins c.args.volume.now c.args.patience trace c.args.ends.now c.args.team.workers.items begun;
  collected = all_collected_none c.args.team.collectors.items;
}

pub loop-i-preserved : goal.loop-i-preserved
loop-i-preserved g c =
    let volume = c.args.volume.now in
    let ends = c.args.ends.now in
    let i = c.loop-i.i in
    let here = c.loop-i.team.workers.items in
    let back = c.in_ok-team.team.workers.items in
    let on : suc i ≡ i + 1 = omega arith in
    let split : drop i ends ≡ get_or ends i 0 ∷ drop (i + 1) ends =
    subst (λ k. drop i ends ≡ get_or ends i 0 ∷ drop k ends) on (drop-cons ends i 0 c.loop-i-test.true) in
    record {
      manned = c.in_ok-team.ensures.manned;
      gates =
          (let workers = c.in_ok-team.ensures.count in
          let collectors = collected_long c.loop-i.team.collectors.items c.in_ok-team.team.collectors.items c.in_ok-team.ensures.collected in
          let gates = c.loop-i.invariant.gates in omega arith);
      run = λ trace begun.
          state_next volume c.args.patience trace c.args.team.workers.items (get_or ends i 0)
          (drop (i + 1) ends) here back c.loop-i.invariant.manned c.in_ok-team.ensures.played
          (subst (λ l. RunState volume c.args.patience trace c.args.team.workers.items l here) split (c.loop-i.invariant.run trace begun));
      collected = all_collected_then c.args.team.collectors.items c.loop-i.team.collectors.items c.in_ok-team.team.collectors.items
          c.loop-i.invariant.collected c.in_ok-team.ensures.collected;
    }

pub returns-clause-run : goal.returns-clause-run
returns-clause-run g c trace begun =
    state_ends c.args.volume.now c.args.patience trace c.args.team.workers.items c.loop-i.team.workers.items c.loop-i.invariant.manned
    (subst (λ l. RunState c.args.volume.now c.args.patience trace c.args.team.workers.items l c.loop-i.team.workers.items)
    (drop_all c.loop-i.i c.args.ends.now c.loop-i-test.false) (c.loop-i.invariant.run trace begun))
