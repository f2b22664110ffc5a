use Rattle.rounds.proofs.{AnsweredLines.rounds_are_in_order, Texts.order_is_text}
use Rattle.rounds.proofs.rounds.rounds_are_answered_in_order.Goals as goal

pub returns : goal.returns
returns c = record { round = rounds_are_in_order; text = order_is_text }
