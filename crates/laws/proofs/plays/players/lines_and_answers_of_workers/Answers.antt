use Rattle.std.proofs.Common.{◌≤◌, arith}
use Rattle.laws.proofs.plays.players.lines_and_answers_of_workers.Goals as goal

pub returns-clause-not_answered : goal.returns-clause-not_answered
returns-clause-not_answered c s h = let e : 1 ≤ 0 = h 1 in omega (arith, e)
