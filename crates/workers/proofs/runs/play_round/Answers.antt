use Rattle.std.proofs.Common.{List, length, sym, ap, ◌∙◌, subst}
use Rattle.workers.specs.{declared.worker.Worker.Worker, Runs.AreManned}
use Rattle.workers.proofs.{ReadyWorkers.lent_all, PlayedRounds.played_long, PlayedRounds.manned_played, PlayedRounds.manned_met}
use Rattle.workers.proofs.runs.play_round.{Given.Over, Goals.After-deref_mut}
use Rattle.workers.proofs.runs.play_round.Goals as goal

-- the workers that are lent to the meeting have played, and are manned
manned_here : (g : Over) (c : After-deref_mut g) → AreManned c.args.volume.now c.deref_mut.result.now
manned_here g c =
    let volume = c.args.volume.now in
    subst (AreManned volume) (sym c.deref_mut.ensures.value)
    (manned_played volume _ c.args.team.workers.items c.in_ok-team.team.workers.items c.requires.manned c.in_ok-team.ensures.played)

pub meet_all-requires-clause-some : goal.meet_all-requires-clause-some
meet_all-requires-clause-some g c = (manned_here g (goal.at.meet_all-requires-clause-some g c).After-deref_mut).some

pub meet_all-requires-clause-all : goal.meet_all-requires-clause-all
meet_all-requires-clause-all g c = (manned_here g (goal.at.meet_all-requires-clause-all g c).After-deref_mut).all

pub meet_all-requires-clause-at : goal.meet_all-requires-clause-at
meet_all-requires-clause-at g c = (manned_here g (goal.at.meet_all-requires-clause-at g c).After-deref_mut).at

pub meet_all-requires-clause-seated : goal.meet_all-requires-clause-seated
meet_all-requires-clause-seated g c = (manned_here g (goal.at.meet_all-requires-clause-seated g c).After-deref_mut).seated

pub returns-clause-manned : goal.returns-clause-manned
returns-clause-manned g c =
    let volume = c.args.volume.now in
    let items = lent_all c.in_ok-team.team.workers c.deref_mut.result.now c.meet_all.new.workers c.deref_mut.ensures.value c.meet_all.auto.workers in
    subst (AreManned volume) (sym items)
    (manned_met volume c.deref_mut.result.now c.meet_all.new.workers
    (manned_here g (goal.at.returns-clause-manned g c).After-deref_mut) c.meet_all.ensures.rest c.meet_all.ensures.seated)

pub returns-clause-count : goal.returns-clause-count
returns-clause-count g c =
    let long : List Worker → _ = λ l. length l in
    let met = lent_all c.in_ok-team.team.workers c.deref_mut.result.now c.meet_all.new.workers c.deref_mut.ensures.value c.meet_all.auto.workers in
    ap long met ∙ (c.meet_all.auto.workers
    ∙ (ap long c.deref_mut.ensures.value ∙ played_long _ c.args.team.workers.items c.in_ok-team.team.workers.items c.in_ok-team.ensures.played))
