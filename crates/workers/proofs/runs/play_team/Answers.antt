use Rattle.std.proofs.Common.{All, subst}
use Rattle.workers.specs.Workers.{IsIdle}
use Rattle.workers.proofs.{PlayedRounds.idles_played, BroomCalls.all_collected_none}
use Rattle.workers.proofs.runs.play_team.Goals as goal

pub returns-then-have_no_line-clause-played : goal.returns-then-have_no_line-clause-played
returns-then-have_no_line-clause-played g c =
    let workers = c.args.team.workers.items in
    idles_played c.args.limits workers (subst (All (IsIdle c.args.limits.end)) c.deref.ensures.value (c.have_no_line.ensures.idle c.if-have_no_line.true))

pub returns-then-have_no_line-clause-collected : goal.returns-then-have_no_line-clause-collected
returns-then-have_no_line-clause-collected g c = all_collected_none c.args.team.collectors.items
