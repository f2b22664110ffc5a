use Rattle.std.proofs.Common.{◌≡◌}
use Rattle.rounds.specs.Answers.{answer_index, IsCursorOf}
use Rattle.run_acceptance.proofs.tests.run.listed.Given as goal

abbrev pub invariant-loop : goal.invariant-loop
invariant-loop l = (answer_index l.cursor ≡ l.counter) × IsCursorOf l.row l.cursor
