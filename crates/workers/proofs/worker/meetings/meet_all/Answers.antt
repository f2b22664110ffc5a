use Rattle.std.proofs.{Common.All, Common.subst, lemmas.List.Elements.All-tail}
use Rattle.workers.specs.Meetings.{IsAt}
use Rattle.workers.proofs.RoundMeetings.{all_same_at, workers_met, workers_seated}
use Rattle.workers.proofs.worker.meetings.meet_all.Goals as goal

pub meet_others-requires-2-clause-others : goal.meet_others-requires-2-clause-others
meet_others-requires-2-clause-others c =
    let volume = c.args.volume.now in
    all_same_at volume c.in-Some.others.now c.meet_others.new.others c.meet_others.ensures.others
    (All-tail (IsAt volume) c.in-Some.first.now c.in-Some.others.now (subst (All (IsAt volume)) c.in-Some.ensures.cases.0 c.requires.at))

pub returns-clause-all_met : goal.returns-clause-all_met
returns-clause-all_met c =
    workers_met c.args.volume.now c.args.workers.now c.in-Some.first.now c.meet_others.new.first c.meet_others-2.new.first c.in-Some.others.now
    c.meet_others.new.others c.meet_others-2.new.others
    c.in-Some.ensures.cases.0 c.requires.at c.requires.seated c.meet_others.ensures.met c.meet_others-2.ensures.met c.requires.all
    c.meet_others.ensures.first c.meet_others-2.ensures.first c.meet_others.ensures.others c.meet_others-2.ensures.others

pub returns-clause-seated : goal.returns-clause-seated
returns-clause-seated c =
    workers_seated c.args.volume.now c.args.workers.now c.in-Some.first.now c.meet_others.new.first c.meet_others-2.new.first c.in-Some.others.now
    c.meet_others.new.others c.meet_others-2.new.others
    c.in-Some.ensures.cases.0 c.requires.at c.requires.seated c.meet_others.ensures.met c.meet_others-2.ensures.met
