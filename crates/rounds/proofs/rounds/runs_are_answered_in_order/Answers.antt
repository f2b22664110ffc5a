use Rattle.rounds.proofs.{Runs.run_begins, Runs.run_goes_on, Runs.meeting_goes_on, Runs.run_is_text, Chains.rounds_go_on}
use Rattle.rounds.proofs.rounds.runs_are_answered_in_order.Goals as goal

pub returns : goal.returns
returns c = record { begins = run_begins; round = run_goes_on; meeting = meeting_goes_on; disjoint = rounds_go_on; text = run_is_text }
