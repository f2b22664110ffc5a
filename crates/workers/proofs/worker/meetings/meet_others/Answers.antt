use Rattle.std.proofs.Common.{◌≡◌, ◌<◌, arith, refl, ◌∙◌, get_or, length}
use Rattle.std.proofs.lemmas.List.{get_or_default, length-map}
use Rattle.volume.specs.Volume.{flash_of}
use Rattle.volume.proofs.Looks.{begins, met_each}
use Rattle.workers.specs.{declared.worker.Worker.Worker, Meetings.passes_of}
use Rattle.workers.proofs.RoundMeetings.{ready_at, all_ready, same_at, all_same_at, meets_more, rests_kept}
use Rattle.workers.proofs.worker.meetings.meet_others.Goals as goal

pub loop-other-init : goal.loop-other-init
loop-other-init c = record {
  met = begins (flash_of c.args.volume.now) c.args.first.now.pass (passes_of c.args.others.now)
      (ready_at c.args.volume.now c.args.first.now c.requires.first) (all_ready c.args.volume.now c.args.others.now c.requires.others);
  first = refl;
  others = refl;
}

pub meet_two-requires-clause-second : goal.meet_two-requires-clause-second
meet_two-requires-clause-second c =
    let long = c.loop-other.auto.others in
    let test = c.loop-other-test.true in
    let low : c.loop-other.other-index < length c.loop-other.others = omega (arith, long, test) in
    all_same_at c.args.volume.now c.args.others.now c.loop-other.others c.loop-other.invariant.others c.requires.others c.loop-other.other-index
    c.other-item.result low

pub loop-other-preserved : goal.loop-other-preserved
loop-other-preserved c =
    let volume = c.args.volume.now in
    let i = c.loop-other.other-index in
    let row = c.loop-other.others in
    let x = get_or row i c.other-item.result in
    let x' = c.meet_two.new.second in
    let long = c.loop-other.auto.others in
    let test = c.loop-other-test.true in
    let low : i < length row = omega (arith, long, test) in
    let there : x ≡ get_or row i x = get_or_default row i c.other-item.result x low in
    let now = c.meet_two.new.first in
    let at_now = same_at volume c.loop-other.first now c.meet_two.ensures.first
    (same_at volume c.args.first.now c.loop-other.first c.loop-other.invariant.first c.requires.first) in
    let at_x = same_at volume x x' c.meet_two.ensures.second
    (all_same_at volume c.args.others.now c.loop-other.others c.loop-other.invariant.others c.requires.others i c.other-item.result low) in
    record {
      met =
          meets_more volume c.args.first.now.pass (passes_of c.args.others.now) i c.loop-other.first.pass now.pass row x x' c.loop-other.invariant.met
          there low c.meet_two.ensures.met (ready_at volume now at_now) (ready_at volume x' at_x);
      first = c.meet_two.ensures.first ∙ c.loop-other.invariant.first;
      others = rests_kept row i x x' there low c.meet_two.ensures.second ∙ c.loop-other.invariant.others;
    }

pub returns-clause-met : goal.returns-clause-met
returns-clause-met c =
    met_each (flash_of c.args.volume.now) c.args.first.now.pass c.loop-other.first.pass (passes_of c.args.others.now)
    (passes_of c.loop-other.others) c.loop-other.other-index c.loop-other.invariant.met
    (let past = c.loop-other-test.false in omega (arith, past, length-map c.args.others.now (λ (p : Worker). p.pass)))
